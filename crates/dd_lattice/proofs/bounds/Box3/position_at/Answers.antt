use Rattle.std.proofs.Common.{◌<◌, arith}
use Rattle.dd_lattice.specs.{Boxes.volume, lemmas.BoxLaws.place_within, lemmas.BoxLaws.index_of_place}
use Rattle.dd_lattice.proofs.bounds.Box3.position_at.Goals as goal

pub returns-then-index-volume-clause-within : goal.returns-then-index-volume-clause-within
returns-then-index-volume-clause-within c =
    let below : c.args.index < volume c.args.self.now = omega (arith, c.volume.ensures.value) in
    rw c.place.ensures (place_within c.args.self.now c.args.index c.volume.ensures.bounds.ordered below)

pub returns-then-index-volume-clause-undone : goal.returns-then-index-volume-clause-undone
returns-then-index-volume-clause-undone c = rw c.place.ensures (index_of_place c.args.self.now c.args.index)
