-- If the numbers of a run's result can be printed, so can all numbers of the bound that is made from it.
use Rattle.std.proofs.Common.{◌≡◌, ℕ, ◌<◌, ◌≤◌, List, ◌++◌, length, map, drop, Some, sym, ap, subst, ◌∙◌, arith}
use Rattle.std.proofs.lemmas.List.{length-map, Elements.All-map}
use Rattle.std.specs.{Int.RustNames.unsigned_abs, List.All}
use Rattle.dd_values.specs.Bounds.{most_number}
use Rattle.dd_fraction.specs.Exact.{Exact}
use Rattle.dd_discharge.specs.{Denominators.common_denominator, Denominators.numerator_over, Denominators.printed, Printed.IsSmallBound}
use Rattle.dd_discharge.proofs.Multiples.{printed_is}
use Rattle.dd_discharge.proofs.Printing.{Given, common_some, small_numerator, small_denominator}

pub small_bound : (v : Exact) (xs ys : List Exact) (n m : ℕ) (p q : ℕ) (amounts duals : List ℕ) → Given v xs ys n → Some m ≡ printed (numerator_over n v) → p ≡ unsigned_abs v.num → q ≡ v.den
    → amounts ≡ map (numerator_over n) (drop 1 xs) → All (λ a. numerator_over n a ≤ most_number) (drop 1 xs)
    → duals ≡ map (numerator_over n) ys → All (λ a. numerator_over n a ≤ most_number) ys → 0 < length ys
    → IsSmallBound (record { numerator = p; denominator = q; common = n; amounts = amounts; duals = duals })
small_bound v xs ys n m p q amounts duals g e pe qe ae amounts_printed de duals_printed some =
    let above = g.fraction.above in
    let den = small_denominator v xs ys n g in
    let num = small_numerator v xs ys n m g e in
    let n_some = common_some (xs ++ ys) n g.common in
    let is = printed_is (common_denominator (xs ++ ys)) n g.common in
    let many : length duals ≡ length ys = ap length de ∙ length-map ys (numerator_over n) in
    record {
      numerator = omega (arith, pe, num);
      denominator = (omega (arith, qe, above), omega (arith, qe, den));
      common = (omega (arith, n_some), omega (arith, is.0, is.1));
      amounts = subst (All (λ k. k ≤ most_number)) (sym ae) (All-map (λ k. k ≤ most_number) (numerator_over n) (drop 1 xs) amounts_printed);
      duals = subst (All (λ k. k ≤ most_number)) (sym de) (All-map (λ k. k ≤ most_number) (numerator_over n) ys duals_printed);
      some_dual = omega (arith, many, some);
    }
