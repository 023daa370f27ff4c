-- The laws of steps and refutations.
use Rattle.std.proofs.Common.{ℕ, List, ◌++◌, refl, arith}
use Rattle.std.specs.Prelude.{codes, All}
use Rattle.dd_values.specs.Bounds.{most_variables}
use Rattle.dd_clause.specs.{declared.clause.Literal.Literal, Clauses.IsLiteralInRange}
use Rattle.dd_certificate.specs.Text.{literals_to_zero, numbers_to_zero, step_text, refutation_text}
use Rattle.dd_certificate.specs.Bounds.{most_count, IsWritableHint, IsWritableStep, IsWritableRefutation}
use Rattle.dd_output.specs.reading.Forms.{both, after, counted}
use Rattle.dd_output.specs.reading.Lists.{literals, numbers_until}
use Rattle.dd_output.specs.reading.Grammar.{step_of, step, refutation}
use Rattle.dd_output.proofs.Forms.{Good, good_mapped, good_both, good_after, good_counted, counted_text}
use Rattle.dd_output.proofs.EndedLists.{literals_good, numbers_until_good}

abbrev FitsLists : List Literal × (List ℕ × List ℕ) → Type 0
FitsLists x = All (IsLiteralInRange most_variables) x.0 × (All IsWritableHint x.1.0 × All IsWritableHint x.1.1)

abbrev lists_text : List Literal × (List ℕ × List ℕ) → List ℕ
lists_text x = literals_to_zero x.0 ++ (numbers_to_zero 32 x.1.0 ++ numbers_to_zero 10 x.1.1)

pub step_good : Good IsWritableStep step_text step
unfolding step
step_good =
    good_mapped FitsLists (λ x. codes "step " ++ lists_text x) (after (codes "step ") (both literals (both (numbers_until 32) (numbers_until 10)))) IsWritableStep step_text step_of
    (good_after (codes "step ") FitsLists lists_text (both literals (both (numbers_until 32) (numbers_until 10)))
    (good_both (All (IsLiteralInRange most_variables)) literals_to_zero literals
    (λ (p : List ℕ × List ℕ). All IsWritableHint p.0 × All IsWritableHint p.1) (λ p. numbers_to_zero 32 p.0 ++ numbers_to_zero 10 p.1) (both (numbers_until 32) (numbers_until 10))
    literals_good
    (good_both (All IsWritableHint) (numbers_to_zero 32) (numbers_until 32) (All IsWritableHint) (numbers_to_zero 10) (numbers_until 10) (numbers_until_good 32) (numbers_until_good 10))))
    (λ x good. (refl, (good.0, good.1.0, good.1.1)))
    (λ s good. ((s.clause, (s.hints, s.deletes)), refl, (good.0, (good.1, good.2)), refl))

pub refutation_good : Good IsWritableRefutation refutation_text refutation
unfolding refutation
refutation_good =
    good_after (codes "refutation ") IsWritableRefutation (counted_text step_text) (counted 1 most_count step)
    (good_counted IsWritableStep step_text step 1 most_count (omega arith) (omega arith) (omega arith) step_good)
