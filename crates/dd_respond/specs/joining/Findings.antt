-- The four questions of a conjugacy, answered in turn until one is answered NO.
use Rattle.std.specs.Prelude.{ℕ, suc, if◌then◌else◌, ◌≡◌, ◌≤◌, ◌<◌, true, false, All, List, [], ◌∷◌, ◌++◌}
use Rattle.dd_derivation.specs.declared.step.Step.{Step}
use Rattle.dd_values.specs.declared.limits.Limits.{Limits}
use Rattle.dd_certificate.specs.{Bounds.IsWritableNumber, Bounds.IsWritableRefutation, declared.answer.Answer.Answer}
use Rattle.dd_contain.specs.Decided.{IsLeast}
use Rattle.dd_question.specs.Conjugacies.{ConjugacyOf}
use Rattle.dd_respond.specs.{Conjugacies.ComesTo, Conjugacies.IsNoAt, declared.conjugacies.Findings.Findings}
use Rattle.dd_respond.specs.declared.conjugacies.Failed.{Failed}
use Rattle.dd_certificate.specs.declared.answer.Answer.TheVariants as answer
use Rattle.dd_certificate.specs.declared.answer.Reason.TheVariants as reason
use Rattle.dd_contain.specs.declared.decision.Decision.TheVariants as decision

-- the questions with smaller numbers than this one are answered YES, with these radii and steps
pub data AreYes (l : Limits) (c : ConjugacyOf) : ℕ → List ℕ → List (List Step) → Type 0 where
  none_yet : AreYes l c 1 [] []
  one_more : {k n : ℕ} {s : List Step} {ns : List ℕ} {ss : List (List Step)} → AreYes l c k ns ss → ComesTo l c k (decision.Yes n s) →
      AreYes l c (suc k) (ns ++ n ∷ []) (ss ++ s ∷ [])

-- No question with a smaller number than this one is answered NO: all are answered YES, or some question is left open. An output can hold each radius
-- and the steps of each YES.
pub record AreFound (l : Limits) (c : ConjugacyOf) (number : ℕ) (f : Findings) : Type 0 where
  pub none : (k : ℕ) → 1 ≤ k → k < number → IsNoAt l c k → ⊥
  pub yes : f.is_open ≡ false → AreYes l c number f.radii f.steps
  pub unknown : f.is_open ≡ true → (k : ℕ) × ComesTo l c k decision.Unknown
  pub radii : All IsWritableNumber f.radii
  pub steps : All IsWritableRefutation f.steps

-- `f` has the number of the first of the four questions that is answered NO, and a configuration that shows this
pub record IsFailed (l : Limits) (c : ConjugacyOf) (f : Failed) : Type 0 where
  pub first : IsLeast (IsNoAt l c) 1 4 f.number
  pub no : ComesTo l c f.number (decision.No f.periodic)

-- the answer if none of the four is answered NO
abbrev pub written_findings : Findings → Answer
written_findings f = if f.is_open then answer.Unknown reason.Limits else answer.Conjugate f.radii f.steps
