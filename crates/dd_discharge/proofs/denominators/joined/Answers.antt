use Rattle.std.proofs.Common.{◌≡◌, ◌<◌, ◌*◌, ◌^◌, sym, ap, ◌∙◌, arith, rules}
use Rattle.std.specs.Int.{w128}
use mir.Val.{SFits}
use Rattle.std.proofs.lemmas.Int.{to_z-of_z, to_z_pos}
use Rattle.dd_discharge.specs.Denominators.{joined_denominator, printed}
use Rattle.dd_discharge.proofs.Multiples.{multiple_is, printed_none}
use Rattle.dd_discharge.proofs.denominators.joined.Goals as goal

pub returns-in_err-multiple : goal.returns-in_err-multiple
returns-in_err-multiple c =
    let small : c.args.common < 2 ^ 64 = search rules in
    let den : SFits w128 c.den.result = search rules in
    let num : SFits w128 c.num.result = search rules in
    let den_2 : SFits w128 c.den-2.result = search rules in
    let is = multiple_is c.args.common c.args.fraction.now c.in_ok-ratio.ratio _ _ _ _ c.unsigned_abs.result c.unsigned_abs-2.result c.den.ensures.fraction
    (to_z_pos w128 c.args.common (omega (arith, small))) (to_z-of_z w128 c.den.result den ∙ c.den.ensures.value) (sym c.in_ok-ratio.was ∙ c.new.ensures)
    (to_z-of_z w128 c.num.result num ∙ c.num.ensures.value) c.unsigned_abs.ensures.value (to_z-of_z w128 c.den-2.result den_2 ∙ c.den-2.ensures.value) c.unsigned_abs-2.ensures.value in
    let large = c.in_err-multiple.ensures in
    c.from_residual-in_err-multiple.ensures ∙ printed_none (joined_denominator c.args.common c.args.fraction.now) (omega (arith, is, large))

pub returns : goal.returns
returns c =
    let small : c.args.common < 2 ^ 64 = search rules in
    let den : SFits w128 c.den.result = search rules in
    let num : SFits w128 c.num.result = search rules in
    let den_2 : SFits w128 c.den-2.result = search rules in
    let is = multiple_is c.args.common c.args.fraction.now c.in_ok-ratio.ratio _ _ _ _ c.unsigned_abs.result c.unsigned_abs-2.result c.den.ensures.fraction
    (to_z_pos w128 c.args.common (omega (arith, small))) (to_z-of_z w128 c.den.result den ∙ c.den.ensures.value) (sym c.in_ok-ratio.was ∙ c.new.ensures)
    (to_z-of_z w128 c.num.result num ∙ c.num.ensures.value) c.unsigned_abs.ensures.value (to_z-of_z w128 c.den-2.result den_2 ∙ c.den-2.ensures.value) c.unsigned_abs-2.ensures.value in
    let product = c.in_ok-multiple.ensures in
    c.printed.ensures ∙ ap printed (product.1 ∙ is)
