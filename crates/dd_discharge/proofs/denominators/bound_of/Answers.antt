use Rattle.std.proofs.Common.{◌≡◌, ◌≤◌, ◌<◌, ◌++◌, ap, subst, sym, ◌∙◌, arith, rules, map}
use Rattle.std.proofs.lemmas.{Int.to_z-of_z, Result.err_from_is_err_and}
use Rattle.std.specs.{Int.w128, Int.RustNames.unsigned_abs, List.All, List.Any}
use mir.Val.{SFits}
use Rattle.dd_values.specs.Bounds.{most_number}
use Rattle.dd_fraction.specs.Exact.{Exact}
use Rattle.dd_discharge.specs.Denominators.{numerator_over, HasUnprinted}
use Rattle.dd_discharge.proofs.Printing.{Given, small_numerator, small_denominator, unprinted_at, any_back, any_later, tail_is, over_from, printed_as}
use Rattle.dd_discharge.proofs.SmallBounds.{small_bound}
use Rattle.dd_discharge.proofs.denominators.bound_of.Goals as goal

pub overflow_cast-result : goal.overflow_cast-result
overflow_cast-result c =
    let v = c.args.value.now in
    let xs = c.args.columns.now in
    let ys = c.args.duals.now in
    let num : SFits w128 c.num.result = search rules in
    let g : Given v xs ys c.in-Some.common = record { fraction = c.num.ensures.fraction; some = c.requires.some; first = c.requires.first; sign = c.requires.sign; common = sym c.in-Some.is ∙ c.common_denominator.ensures } in
    let small = small_numerator v xs ys c.in-Some.common c.in-Some-numerator_over._held g (sym c.in-Some-numerator_over.is ∙ c.numerator_over.ensures) in
    let is : c.unsigned_abs.result ≡ unsigned_abs v.num = c.unsigned_abs.ensures.value ∙ ap unsigned_abs (to_z-of_z w128 c.num.result num ∙ c.num.ensures.value) in
    omega (arith, small, is)

pub overflow_cast-result-2 : goal.overflow_cast-result-2
overflow_cast-result-2 c =
    let v = c.args.value.now in
    let xs = c.args.columns.now in
    let ys = c.args.duals.now in
    let den : SFits w128 c.den.result = search rules in
    let g : Given v xs ys c.in-Some.common = record { fraction = c.num.ensures.fraction; some = c.requires.some; first = c.requires.first; sign = c.requires.sign; common = sym c.in-Some.is ∙ c.common_denominator.ensures } in
    let small = small_denominator v xs ys c.in-Some.common g in
    let is : c.unsigned_abs-2.result ≡ v.den = c.unsigned_abs-2.ensures.value ∙ ap unsigned_abs (to_z-of_z w128 c.den.result den ∙ c.den.ensures.value) in
    omega (arith, small, is)

pub returns-in_err-amounts-clause-err : goal.returns-in_err-amounts-clause-err
returns-in_err-amounts-clause-err c =
    let xs = c.args.columns.now in
    let ys = c.args.duals.now in
    let n = c.in-Some.common in
    let P : Exact → Type 0 = λ a. most_number < numerator_over n a in
    let p = err_from_is_err_and c.from_residual.result c.from_residual.ensures.1 in
    rw (p.1, p.2)
    (over_from c.in_err-amounts.field-0.0 _ (HasUnprinted (xs ++ ys))
    (λ h. unprinted_at (xs ++ ys) n (sym c.in-Some.is ∙ c.common_denominator.ensures) (any_later P xs ys (subst (Any P) (tail_is xs) h)))
    c.in_err-amounts.ensures.err)

pub returns-in_err-duals-clause-err : goal.returns-in_err-duals-clause-err
returns-in_err-duals-clause-err c =
    let xs = c.args.columns.now in
    let ys = c.args.duals.now in
    let n = c.in-Some.common in
    let P : Exact → Type 0 = λ a. most_number < numerator_over n a in
    let p = err_from_is_err_and c.from_residual-in_err-duals.result c.from_residual-in_err-duals.ensures.1 in
    rw (p.1, p.2)
    (over_from c.in_err-duals.field-0.0 _ (HasUnprinted (xs ++ ys))
    (λ h. unprinted_at (xs ++ ys) n (sym c.in-Some.is ∙ c.common_denominator.ensures) (any_back P xs ys h))
    c.in_err-duals.ensures.err)

pub returns : goal.returns
returns c =
    let v = c.args.value.now in
    let xs = c.args.columns.now in
    let ys = c.args.duals.now in
    let n = c.in-Some.common in
    let held = sym c.in-Some-numerator_over.is ∙ c.numerator_over.ensures in
    let num : SFits w128 c.num.result = search rules in
    let den : SFits w128 c.den.result = search rules in
    let g : Given v xs ys n = record { fraction = c.num.ensures.fraction; some = c.requires.some; first = c.requires.first; sign = c.requires.sign; common = sym c.in-Some.is ∙ c.common_denominator.ensures } in
    let num_is : c.unsigned_abs.result ≡ unsigned_abs v.num = c.unsigned_abs.ensures.value ∙ ap unsigned_abs (to_z-of_z w128 c.num.result num ∙ c.num.ensures.value) in
    let den_is : c.unsigned_abs-2.result ≡ v.den = c.unsigned_abs-2.ensures.value ∙ ap unsigned_abs (to_z-of_z w128 c.den.result den ∙ c.den.ensures.value) in
    let amounts = c.in_ok-amounts.ensures.value ∙ ap (map (numerator_over n)) (tail_is xs) in
    let few = subst (All (λ (a : Exact). numerator_over n a ≤ most_number)) (tail_is xs) c.in_ok-amounts.ensures.printed in
    let duals = c.in_ok-duals.ensures in
    record {
      ok = printed_as v xs ys n c.in-Some-numerator_over._held c.unsigned_abs.result c.unsigned_abs-2.result c.in_ok-amounts.amounts c.in_ok-duals.duals g held num_is den_is amounts few duals.value duals.printed;
      small = small_bound v xs ys n c.in-Some-numerator_over._held c.unsigned_abs.result c.unsigned_abs-2.result c.in_ok-amounts.amounts c.in_ok-duals.duals g held num_is den_is amounts few duals.value duals.printed c.requires.some_dual;
      err = tt;
    }
