-- The answers to the four questions of a conjugacy give the answer about the conjugacy.
use Rattle.std.proofs.Common.{◌≡◌, ℕ, ◌+◌, ◌≤◌, ◌<◌, Bool, true, false, List, [], ◌∷◌, ◌++◌, length, All, refl, sym, subst, ◌∙◌, arith, add-one, inl, inr}
use Rattle.std.proofs.lemmas.Bool.{cases_lt, false≢true}
use Rattle.std.proofs.lemmas.List.Elements.{All-nil, All-cons, All-append}
use Rattle.dd_derivation.specs.declared.step.Step.{Step}
use Rattle.dd_pattern.specs.Tile.{Tile}
use Rattle.dd_values.specs.declared.limits.Limits.{Limits}
use Rattle.dd_certificate.specs.Bounds.{IsWritable, IsWritableNumber, IsWritableRefutation}
use Rattle.dd_question.specs.Conjugacies.{ConjugacyOf}
use Rattle.dd_respond.specs.Conjugacies.{ComesTo, IsNoAt, written_broken, IsRightConjugacy, first_no, all_yes, some_open}
use Rattle.dd_respond.specs.declared.conjugacies.{Findings.Findings, Failed.Failed}
use Rattle.dd_respond.specs.joining.Findings.{AreYes, none_yet, one_more, AreFound, IsFailed, written_findings}
use Rattle.dd_respond.proofs.AgreeLaws.{yes_not_no, unknown_not_no}
use Rattle.dd_contain.specs.declared.decision.Decision.TheVariants as decision

-- if all items of a list have a property, and one more item has it, then all items of the longer list have it
all_more : {A : Type 0} (P : A → Type 0) (xs : List A) (x : A) → All P xs → P x → All P (xs ++ x ∷ [])
all_more P xs x all one = All-append P xs (x ∷ []) all (All-cons P x [] one (All-nil P))

-- if none of the numbers 1 to `number` - 1 has a property, and `number` doesn't have it, then none of the numbers 1 to `number` has it
none_more : (P : ℕ → Type 0) (number : ℕ) → ((k : ℕ) → 1 ≤ k → k < number → P k → ⊥) → (P number → ⊥) → (k : ℕ) → 1 ≤ k → k < number + 1 → P k → ⊥
none_more P number none never k low below holds = elim (cases_lt k number) [
  | inl before ↦ none k low before holds
  | inr after ↦ let same : k ≡ number = omega (arith, after, below) in never (subst P same holds)
]

module _ (l : Limits) (c : ConjugacyOf) where
  pub nothing_found : (f : Findings) → f.radii ≡ [] → f.steps ≡ [] → f.is_open ≡ false → AreFound l c 1 f
  nothing_found f radii steps shut = record {
    none = λ k low below other. absurd (omega (arith, low, below));
    yes = λ _. rw (radii, steps) none_yet;
    unknown = λ is. absurd (false≢true (sym shut ∙ is));
    radii = rw radii (All-nil IsWritableNumber);
    steps = rw steps (All-nil IsWritableRefutation);
  }

  pub yes_found : (number n : ℕ) (s : List Step) (f g : Findings) → AreFound l c number f → ComesTo l c number (decision.Yes n s) → IsWritableNumber n →
      IsWritableRefutation s → g.radii ≡ f.radii ++ n ∷ [] → g.steps ≡ f.steps ++ s ∷ [] → g.is_open ≡ f.is_open → AreFound l c (number + 1) g
  yes_found number n s f g found is small fit radii steps same = record {
    none = none_more (IsNoAt l c) number found.none (yes_not_no l c number n s is);
    yes = λ shut. rw (radii, steps, add-one number) (one_more (found.yes (sym same ∙ shut)) is);
    unknown = λ b. found.unknown (sym same ∙ b);
    radii = rw radii (all_more IsWritableNumber f.radii n found.radii small);
    steps = rw steps (all_more IsWritableRefutation f.steps s found.steps fit);
  }

  pub unknown_found : (number : ℕ) (f g : Findings) → AreFound l c number f → ComesTo l c number decision.Unknown → g.radii ≡ f.radii → g.steps ≡ f.steps →
      g.is_open ≡ true → AreFound l c (number + 1) g
  unknown_found number f g found unknown radii steps is = record {
    none = none_more (IsNoAt l c) number found.none (unknown_not_no l c number unknown);
    yes = λ shut. absurd (false≢true (sym shut ∙ is));
    unknown = λ _. (number, unknown);
    radii = rw radii found.radii;
    steps = rw steps found.steps;
  }

  pub no_failed : (number : ℕ) (f : Findings) (t : Tile) → 1 ≤ number → number ≤ 4 → AreFound l c number f → ComesTo l c number (decision.No t) →
      IsFailed l c (record { number = number; periodic = t })
  no_failed number f t low high found is = record { first = record { low = low; high = high; holds = (t, is); first = found.none }; no = is }

  -- ---- the answer about the conjugacy

  yes_right : (f : Findings) (ns : List ℕ) (ss : List (List Step)) → AreYes l c 5 ns ss → f.radii ≡ ns → f.steps ≡ ss → f.is_open ≡ false →
      IsRightConjugacy l c (written_findings f)
  yes_right f _ _ (one_more (one_more (one_more (one_more none_yet one) two) three) four) radii steps shut = rw (shut, radii, steps) (all_yes one two three four)
  yes_right f _ _ (one_more (one_more (one_more (one_more (one_more early _) _) _) _) _) radii steps shut = elim early [ ]

  found_by : (b : Bool) (f : Findings) → f.is_open ≡ b → AreFound l c 5 f → IsRightConjugacy l c (written_findings f)
  found_by false f shut found = yes_right f f.radii f.steps (found.yes shut) refl refl shut
  found_by true f is found =
      let one = found.unknown is in
      rw is (some_open (λ k low high other. found.none k low (omega (arith, high)) other) one.1)

  pub found_right : (f : Findings) → AreFound l c 5 f → IsRightConjugacy l c (written_findings f)
  found_right f found = found_by f.is_open f refl found

  yes_fits : (ns : List ℕ) (ss : List (List Step)) → AreYes l c 5 ns ss → (length ns ≡ 4) × (length ss ≡ 4)
  yes_fits _ _ (one_more (one_more (one_more (one_more none_yet one) two) three) four) = (refl, refl)
  yes_fits _ _ (one_more (one_more (one_more (one_more (one_more early _) _) _) _) _) = elim early [ ]

  fits_by : (b : Bool) (f : Findings) → f.is_open ≡ b → AreFound l c 5 f → IsWritable (written_findings f)
  fits_by false f shut found =
      let four = yes_fits f.radii f.steps (found.yes shut) in
      rw shut (four.0, found.radii, four.1, found.steps)
  fits_by true f is found = rw is tt

  pub found_fits : (f : Findings) → AreFound l c 5 f → IsWritable (written_findings f)
  found_fits f found = fits_by f.is_open f refl found

  pub failed_right : (f : Failed) → IsFailed l c f → IsRightConjugacy l c (written_broken f.number f.periodic)
  failed_right f failed = first_no failed.first failed.no
