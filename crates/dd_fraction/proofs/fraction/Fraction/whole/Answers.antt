use Rattle.std.proofs.{Common.arith, lemmas.Int.to_z-of_z, lemmas.Int.ints}
use Rattle.std.specs.Int.{w64, w128}
use mir.Val.{SFits}
use Rattle.dd_fraction.specs.lemmas.Results.{whole_fraction}
use Rattle.dd_fraction.proofs.fraction.Fraction.whole.Goals as goal

pub invariant_of-result : goal.invariant_of-result
invariant_of-result c =
    let small : SFits w64 c.args.num = c.ranges.num in
    let large : SFits w128 c.args.num = omega (arith, ints) in
    simp to_z-of_z (whole_fraction c.args.num small)
