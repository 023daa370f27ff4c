-- Which answers about conjugacies are right. A conjugacy comes down to four box questions, which are numbered from 1.
use Rattle.std.specs.Prelude.{ℕ, List, [], ◌∷◌}
use Rattle.dd_derivation.specs.declared.step.Step.{Step}
use Rattle.dd_pattern.specs.Tile.{Tile}
use Rattle.dd_formula.specs.LocalRule.{LocalRule}
use Rattle.dd_values.specs.declared.limits.Limits.{Limits}
use Rattle.dd_boxes.specs.Goals.{GoalOf}
use Rattle.dd_certificate.specs.declared.answer.Answer.{Answer}
use Rattle.dd_contain.specs.{declared.decision.Decision.Decision, Decided.IsLeast, Decided.NoneIn, Questions.IsDecided}
use Rattle.dd_question.specs.Conjugacies.{ConjugacyOf, IsPart}
use Rattle.dd_evidence.specs.Tiles.{written_periods}
use Rattle.dd_certificate.specs.declared.answer.Answer.TheVariants as answer
use Rattle.dd_certificate.specs.declared.answer.Reason.TheVariants as reason
use Rattle.dd_contain.specs.declared.decision.Decision.TheVariants as decision

-- d is a right decision of the question with the number k, within the limits
pub record ComesTo (l : Limits) (c : ConjugacyOf) (k : ℕ) (d : Decision) : Type 0 where
  pub premise : LocalRule
  pub goal : GoalOf
  pub is_part : IsPart c k premise goal
  pub decided : IsDecided premise goal l.radius l.period d

-- the question with the number k is answered NO, with some configuration
abbrev pub IsNoAt : Limits → ConjugacyOf → ℕ → Type 0
IsNoAt l c k = (t : Tile) × ComesTo l c k (decision.No t)

-- the answer if the question with the number k is answered NO with the configuration t
abbrev pub written_broken : ℕ → Tile → Answer
written_broken k t = answer.Broken k (written_periods t) t.periods.shear t.symbols

-- If one of the four questions is answered NO, a right answer is BROKEN. It has the number of the first such question, and a configuration that shows
-- this NO. The questions after it don't matter. If all four are answered YES, a right answer is CONJUGATE. Otherwise it is UNKNOWN.
pub data IsRightConjugacy (l : Limits) (c : ConjugacyOf) : Answer → Type 0 where
  first_no : {k : ℕ} {t : Tile} → IsLeast (IsNoAt l c) 1 4 k → ComesTo l c k (decision.No t) →
      IsRightConjugacy l c (written_broken k t)
  all_yes : {n1 n2 n3 n4 : ℕ} {s1 s2 s3 s4 : List Step} → ComesTo l c 1 (decision.Yes n1 s1) → ComesTo l c 2 (decision.Yes n2 s2) →
      ComesTo l c 3 (decision.Yes n3 s3) → ComesTo l c 4 (decision.Yes n4 s4) →
      IsRightConjugacy l c (answer.Conjugate (n1 ∷ n2 ∷ n3 ∷ n4 ∷ []) (s1 ∷ s2 ∷ s3 ∷ s4 ∷ []))
  some_open : {k : ℕ} → NoneIn (IsNoAt l c) 1 4 → ComesTo l c k decision.Unknown → IsRightConjugacy l c (answer.Unknown reason.Limits)
