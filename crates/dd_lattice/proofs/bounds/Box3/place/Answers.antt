use Rattle.std.proofs.Common.{◌<◌, rules}
use Rattle.dd_lattice.specs.{Boxes.Bounds, Boxes.volume, lemmas.BoxLaws.place_within}
use Rattle.dd_lattice.proofs.bounds.Box3.place.Goals as goal

pub raised-requires : goal.raised-requires
raised-requires c =
    let b : Bounds = record { low = c.self.inside.low; high = c.self.inside.high } in
    let below : c.args.index < volume b = search rules in
    let all = c.steps_between-all.ensures in
    rw (all.x, all.y) (place_within b c.args.index c.self.invariant below).1
