use Rattle.std.proofs.Common.{◌≡◌, arith}
use Rattle.dd_lattice.specs.{Boxes.volume, lemmas.PositionLaws.positions_region}
use Rattle.dd_lattice.proofs.region.positions.Goals as goal

pub invariant_of-result : goal.invariant_of-result
invariant_of-result c =
    let known = c.volume-index-end.ensures in
    let all : c.loop-index.index ≡ volume c.args.b.now = omega (arith, known.value) in
    rw (c.loop-index.invariant, all) (positions_region c.args.b.now known.bounds).region

pub returns-clause-members : goal.returns-clause-members
returns-clause-members c =
    let known = c.volume-index-end.ensures in
    let all : c.loop-index.index ≡ volume c.args.b.now = omega (arith, known.value) in
    rw (c.loop-index.invariant, all) (positions_region c.args.b.now known.bounds)
