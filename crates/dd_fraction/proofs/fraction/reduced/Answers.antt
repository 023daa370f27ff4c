use Rattle.std.proofs.{Common.ap, Common.◌∙◌, Common.sym, Common.rules, lemmas.Int.to_z-of_z}
use Rattle.std.specs.Int.{w128}
use mir.Val.{SFits}
use Rattle.dd_fraction.specs.Exact.{lowest}
use Rattle.dd_fraction.specs.lemmas.Results.{IsFraction-whole, lowest_coprime, lowest_whole, lowest_made, lowest_result}
use Rattle.dd_fraction.proofs.fraction.reduced.Goals as goal

pub in_lowest_terms-requires : goal.in_lowest_terms-requires
in_lowest_terms-requires c =
    let num_fits : SFits w128 c.args.num = c.ranges.num in
    simp to_z-of_z (IsFraction-whole c.args.num c.requires.bounded)

pub returns-then-den-eq1 : goal.returns-then-den-eq1
returns-then-den-eq1 c =
    let num_fits : SFits w128 c.args.num = c.ranges.num in
    let made = simp to_z-of_z at c.in_lowest_terms.ensures in
    made ∙ (sym (lowest_whole c.args.num) ∙ ap (lowest c.args.num) (sym c.if-den-eq1.true))

pub returns-then-divisor-eq1 : goal.returns-then-divisor-eq1
returns-then-divisor-eq1 c =
    let num_fits : SFits w128 c.args.num = c.ranges.num in
    let divisor = simp to_z-of_z at c.common_divisor-divisor.ensures.value in
    let made = simp to_z-of_z at c.in_lowest_terms-then-divisor-eq1.ensures in
    made ∙ sym (lowest_coprime c.args.num c.args.den c.requires.above (sym divisor ∙ c.if-divisor-eq1.true))

pub in_lowest_terms-requires-2 : goal.in_lowest_terms-requires-2
in_lowest_terms-requires-2 c =
    let num_fits : SFits w128 c.args.num = c.ranges.num in
    let fits : SFits w128 c.quotient.result = search rules in
    let divisor = simp to_z-of_z at c.common_divisor-divisor.ensures.value in
    let over = simp to_z-of_z at c.quotient.ensures in
    simp (to_z-of_z, c.size_quotient.ensures) (lowest_made c.args.num c.quotient.result c.args.den c.common_divisor-divisor.result divisor over
    c.requires.above c.requires.below c.requires.bounded)

pub returns : goal.returns
returns c =
    let num_fits : SFits w128 c.args.num = c.ranges.num in
    let fits : SFits w128 c.quotient.result = search rules in
    let divisor = simp to_z-of_z at c.common_divisor-divisor.ensures.value in
    let over = simp to_z-of_z at c.quotient.ensures in
    let made = simp (to_z-of_z, c.size_quotient.ensures) at c.in_lowest_terms-2.ensures in
    made ∙ sym (lowest_result c.args.num c.quotient.result c.args.den c.common_divisor-divisor.result divisor over
    c.requires.above)
