-- An output can hold each decision of a box question and each decision about equality: the steps of a YES are a refutation, with few enough
-- variables, clauses and steps.
use Rattle.std.proofs.Common.{◌≡◌, ℕ, ◌+◌, ◌≤◌, true, List, length, sym, subst}
use Rattle.dd_values.specs.Bounds.{most_variables}
use Rattle.dd_clause.specs.declared.clause.Literal.{Literal}
use Rattle.dd_derivation.specs.{declared.step.Step.Step, Derivations.refutes}
use Rattle.dd_formula.specs.LocalRule.{LocalRule}
use Rattle.dd_boxes.specs.Goals.{GoalOf, breaks}
use Rattle.dd_problem.specs.Problems.{box_problem}
use Rattle.dd_certificate.specs.Bounds.{IsWritableRefutation, most_count}
use Rattle.dd_contain.specs.declared.{decision.Decision.Decision, equal.Equality.Equality}
use Rattle.dd_contain.specs.Questions.{IsDecided, HasNumbers}
use Rattle.dd_contain.specs.Equal.{joined, UnlessNo, IsEqualDecided, HasBothNumbers}
use Rattle.dd_respond.specs.Writable.{IsWritableDecision, IsWritableEquality}
use Rattle.dd_contain.specs.declared.decision.Decision.TheVariants as decision

-- an output can hold the steps of a refutation, if its variables, clauses and steps are few enough
abbrev RefutationsFit : Type 0
RefutationsFit =
    (n : ℕ) (clauses : List (List Literal)) (steps : List Step) → refutes n clauses steps ≡ true → n ≤ most_variables →
    length clauses + length steps ≤ most_count → IsWritableRefutation steps

module _ (fit : RefutationsFit) where
  pub decision_fits : (x : LocalRule) (g : GoalOf) (n p : ℕ) (d : Decision) → IsDecided x g n p d → HasNumbers x g d → IsWritableDecision d
  decision_fits x g n p (decision.Yes m steps) decided numbered =
      fit (box_problem x g m).variables (box_problem x g m).clauses steps decided.2.1 numbered.variables numbered.numbers
  decision_fits x g n p (decision.No t) decided numbered = tt
  decision_fits x g n p decision.Unknown decided numbered = tt

  joined_fits : (x y : LocalRule) (n p : ℕ) (left right : Decision) → IsDecided x (breaks y) n p left → UnlessNo left (IsDecided y (breaks x) n p right) →
      HasBothNumbers x y (joined left right) → IsWritableEquality (joined left right)
  joined_fits x y n p (decision.No t) right h k numbered = tt
  joined_fits x y n p (decision.Yes m steps) (decision.No t) h k numbered = tt
  joined_fits x y n p decision.Unknown (decision.No t) h k numbered = tt
  joined_fits x y n p (decision.Yes m steps) (decision.Yes l others) h k numbered =
      (decision_fits x (breaks y) n p (decision.Yes m steps) h numbered.0, decision_fits y (breaks x) n p (decision.Yes l others) k numbered.1)
  joined_fits x y n p (decision.Yes m steps) decision.Unknown h k numbered = tt
  joined_fits x y n p decision.Unknown (decision.Yes l others) h k numbered = tt
  joined_fits x y n p decision.Unknown decision.Unknown h k numbered = tt

  pub equality_fits : (x y : LocalRule) (n p : ℕ) (e : Equality) → IsEqualDecided x y n p e → HasBothNumbers x y e → IsWritableEquality e
  equality_fits x y n p e decided numbered =
      subst IsWritableEquality (sym decided.join)
      (joined_fits x y n p decided.left decided.right decided.left_decided decided.right_decided (subst (HasBothNumbers x y) decided.join numbered))
