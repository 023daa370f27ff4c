-- The numbers of the clauses to be deleted, taken one after another.
use Rattle.std.proofs.Common.{◌≡◌, ℕ, ◌+◌, ◌<◌, ◌≤◌, Bool, true, false, List, [], ◌∷◌, ◌++◌, is_some, ap, sym, ◌∙◌, get_or, arith}
use Rattle.std.proofs.lemmas.Bool.{false≢true}
use Rattle.dd_derivation.specs.Derivations.{clause_of, are_deletable, known_after}
use Rattle.dd_solver.specs.lemmas.Known.{Known}
use Rattle.dd_solver.proofs.Numbers.{after_more, deletable_more, other_number}

-- The clauses with the numbers taken so far can be deleted. If they are, a clause stays if it is not chosen, or if its number is at most `first` or
-- at least `place`.
pub record Taken (known : Known) (first place : ℕ) (chosen : List Bool) (deletes : List ℕ) : Type 0 where
  pub deletable : are_deletable known deletes ≡ true
  pub first_stay : (h : ℕ) → h ≤ first → clause_of (known_after known deletes) h ≡ clause_of known h
  pub later : (h : ℕ) → place ≤ h → clause_of (known_after known deletes) h ≡ clause_of known h
  pub spared : (h : ℕ) → get_or chosen h false ≡ false → clause_of (known_after known deletes) h ≡ clause_of known h

pub taken_past : (known : Known) (first place : ℕ) (chosen : List Bool) (deletes : List ℕ) → Taken known first place chosen deletes → Taken known first (place + 1) chosen deletes
taken_past known first place chosen deletes t = record { deletable = t.deletable; first_stay = t.first_stay; later = λ h l. t.later h (omega arith); spared = t.spared }

pub taken_more : (known : Known) (first place : ℕ) (chosen : List Bool) (deletes : List ℕ) → first < place → get_or chosen place false ≡ true → is_some (clause_of known place) ≡ true → Taken known first place chosen deletes → Taken known first (place + 1) chosen (deletes ++ place ∷ [])
taken_more known first place chosen deletes l c s t = record {
  deletable = deletable_more known deletes place t.deletable (ap (λ o. is_some o) (t.later place (omega arith)) ∙ s);
  first_stay = λ h b. same h (λ e. omega arith) ∙ t.first_stay h b;
  later = λ h b. same h (λ e. omega arith) ∙ t.later h (omega arith);
  spared = λ h f. same h (λ e. false≢true (sym f ∙ ap (λ (i : ℕ). get_or chosen i false) e ∙ c)) ∙ t.spared h f;
}
  where
    same : (h : ℕ) → (h ≡ place → ⊥) → clause_of (known_after known (deletes ++ place ∷ [])) h ≡ clause_of (known_after known deletes) h
    same h n = ap (λ (ys : Known). clause_of ys h) (after_more known deletes place) ∙ other_number (known_after known deletes) place h n
