-- A walk that comes back to an earlier state repeats itself, so it has no new values from there on.
use Rattle.std.proofs.Common.{◌≡◌, ℕ, zero, suc, ◌+◌, ◌-◌, ◌%◌, ◌<◌, Bool, true, false, cond, List, [], ◌∷◌, Option, Some, None, refl, sym, ◌∙◌, ap, subst, inl, inr, length, arith, add-one}
use Rattle.std.proofs.{Math.Nat.mod-add-mod, lemmas.Bool.cases_lt}
use Rattle.std.proofs.lemmas.List.Elements.{All-head, All-tail, All-weaker}
use Rattle.std.specs.{List.All, List.find, List.slice_get, Option.option_and_then, Option.option_map}
use Rattle.dd_clause.specs.{declared.clause.Literal.Literal, Clauses.ClauseList}
use Rattle.dd_engines.specs.Walks.{values_after, first_unsatisfied, is_unsatisfied, flipped, made_true, NoneBefore}
use Rattle.dd_engines.specs.Repeats.{PickAlike, IsSameState}

-- an item that is found has any property that all items have
found_has : {X : Type 0} (P : X → Type 0) (p : X → Bool) (xs : List X) (x : X) → All P xs → find p xs ≡ Some x → P x
found_has P p [] x all is = absurd (cc is)
found_has {X = X} P p (y ∷ ys) x all is = go (p y) (found_has P p ys x (All-tail P y ys all)) is
  where
    go : (b : Bool) → (find p ys ≡ Some x → P x) → cond b (Some y) (find p ys) ≡ Some x → P x
    go true behind found = let same : y ≡ x = cc found in subst P same (All-head P y ys all)
    go false behind found = behind found

picked : (c : List Literal) (j k : ℕ) → (0 < length c → j % length c ≡ k % length c) → slice_get c (j % length c) ≡ slice_get c (k % length c)
picked [] j k alike = refl
picked (l ∷ c) j k alike = ap (slice_get (l ∷ c)) (alike (omega arith))

pub flip_alike : (j k : ℕ) (values : List Bool) (c : List Literal) → (0 < length c → j % length c ≡ k % length c) → flipped j values c ≡ flipped k values c
flip_alike j k values c alike = ap (option_map (made_true values)) (picked c j k alike)

step_alike : (j k : ℕ) (values : List Bool) (clauses : List (List Literal)) → PickAlike clauses j k → (o : Option (List Literal)) → first_unsatisfied values clauses ≡ o
    → option_and_then (flipped j values) o ≡ option_and_then (flipped k values) o
step_alike j k values clauses alike None is = refl
step_alike j k values clauses alike (Some c) is = flip_alike j k values c (found_has (λ clause. 0 < length clause → j % length clause ≡ k % length clause) (is_unsatisfied values) clauses c alike is)

steps_alike : (cnf : ClauseList) (j k : ℕ) → PickAlike cnf.clauses j k → (o : Option (List Bool))
    → option_and_then (λ values. option_and_then (flipped j values) (first_unsatisfied values cnf.clauses)) o ≡ option_and_then (λ values. option_and_then (flipped k values) (first_unsatisfied values cnf.clauses)) o
steps_alike cnf j k alike None = refl
steps_alike cnf j k alike (Some values) = step_alike j k values cnf.clauses alike (first_unsatisfied values cnf.clauses) refl

next_values : (cnf : ClauseList) (j k : ℕ) → PickAlike cnf.clauses j k → values_after cnf j ≡ values_after cnf k → values_after cnf (suc j) ≡ values_after cnf (suc k)
next_values cnf j k alike same =
    ap (option_and_then (λ values. option_and_then (flipped j values) (first_unsatisfied values cnf.clauses))) same
    ∙ steps_alike cnf j k alike (values_after cnf k)

next_of : (j k n : ℕ) → j % n ≡ k % n → suc j % n ≡ suc k % n
next_of j k n same =
    ap (λ (m : ℕ). m % n) (sym (add-one j)) ∙ sym (mod-add-mod j n 1) ∙ ap (λ (r : ℕ). (r + 1) % n) same ∙ mod-add-mod k n 1 ∙ ap (λ (m : ℕ). m % n) (add-one k)

next_picks : (clauses : List (List Literal)) (j k : ℕ) → PickAlike clauses j k → PickAlike clauses (suc j) (suc k)
next_picks clauses j k alike =
    All-weaker (λ clause. 0 < length clause → j % length clause ≡ k % length clause) (λ clause. 0 < length clause → suc j % length clause ≡ suc k % length clause)
    (λ clause h some. next_of j k (length clause) (h some)) clauses alike

next_state : (cnf : ClauseList) (j k : ℕ) → IsSameState cnf j k → IsSameState cnf (suc j) (suc k)
next_state cnf j k same = record { values = next_values cnf j k same.picks same.values; picks = next_picks cnf.clauses j k same.picks }

pub same_later : (cnf : ClauseList) (j k : ℕ) → IsSameState cnf j k → (d : ℕ) → IsSameState cnf (j + d) (k + d)
same_later cnf j k same zero =
    let a : j ≡ j + 0 = omega arith in
    let b : k ≡ k + 0 = omega arith in
    subst (λ (n : ℕ). IsSameState cnf n (k + 0)) a (subst (λ (n : ℕ). IsSameState cnf j n) b same)
same_later cnf j k same (suc d) =
    let a : suc (j + d) ≡ j + suc d = omega arith in
    let b : suc (k + d) ≡ k + suc d = omega arith in
    subst (λ (n : ℕ). IsSameState cnf n (k + suc d)) a (subst (λ (n : ℕ). IsSameState cnf (suc (j + d)) n) b (next_state cnf (j + d) (k + d) (same_later cnf j k same d)))

-- Let the walk be in the same state after j flips as after k flips, where j < k. If no values after fewer than k flips satisfy the clauses, no values
-- do: all later values are also reached after fewer flips.
pub none_later : (cnf : ClauseList) (j k : ℕ) → j < k → IsSameState cnf j k → NoneBefore cnf k → (n : ℕ) → NoneBefore cnf n
none_later cnf j k less same none zero m values lt reached satisfying = absurd (omega (arith, lt))
none_later cnf j k less same none (suc n) m values lt reached satisfying = elim (cases_lt m k) [
  | inl before ↦ none m values before reached satisfying
  | inr past ↦
      let at : k + (m - k) ≡ m = omega (arith, past) in
      let earlier : values_after cnf (j + (m - k)) ≡ Some values = (same_later cnf j k same (m - k)).values ∙ ap (values_after cnf) at ∙ reached in
      none_later cnf j k less same none n (j + (m - k)) values (omega (arith, past, less, lt)) earlier satisfying
]
