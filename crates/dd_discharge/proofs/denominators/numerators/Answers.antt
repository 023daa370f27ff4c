use Rattle.std.proofs.Common.{◌≡◌, ◌≤◌, ap, subst, sym, ◌∙◌, ◌++◌, ◌∷◌, [], ℕ, List, map, take}
use Rattle.dd_values.specs.Bounds.{most_number}
use Rattle.dd_fraction.specs.Exact.{Exact}
use Rattle.dd_discharge.specs.Denominators.{numerator_over}
use Rattle.dd_discharge.proofs.{Multiples.printed_is, Printing.all_more, Printing.map_more}
use Rattle.dd_discharge.proofs.denominators.numerators.Goals as goal

pub loop-fraction-preserved : goal.loop-fraction-preserved
loop-fraction-preserved c =
    let i = c.loop-fraction.invariant in
    let x = c.fraction-item.result in
    let n = c.args.common in
    let is = printed_is (numerator_over n x) c.in-Some.numerator (sym c.in-Some.is ∙ c.numerator_over.ensures) in
    let pushed = c.in_ok-push.ensures.ok in
    record {
      numbers = pushed ∙ (ap (λ (ns : List ℕ). ns ++ c.in-Some.numerator ∷ []) i.numbers ∙ (ap (λ (m : ℕ). map (numerator_over n) (take c.loop-fraction.fraction-index c.args.fractions.now) ++ m ∷ []) is.0 ∙ map_more (numerator_over n) c.args.fractions.now c.loop-fraction.fraction-index x c.loop-fraction-test.true c.fraction-item.is));
      printed = all_more (λ (a : Exact). numerator_over n a ≤ most_number) c.args.fractions.now c.loop-fraction.fraction-index x c.loop-fraction-test.true c.fraction-item.is is.1 i.printed;
    }
