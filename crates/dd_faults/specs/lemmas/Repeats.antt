-- If there is no repetition, no item has the key of an earlier one.
use Rattle.std.proofs.Common.{◌≡◌, ℕ, zero, suc, ◌<◌, true, false, List, [], ◌∷◌, ◌++◌, length, map, take, slice_index_or, Contains, sym, ◌∙◌, arith, true≢false}
use Rattle.std.specs.{Prelude.bytes_eq, List.list_any, Cmp.Lexicographic.nat_list_eq_equiv}
use Rattle.std.proofs.lemmas.{Bool.false_from_ne_true, Grind.common_steps, Map.Views.list_any-from_Contains, Map.Views.Contains-from_any}
use Rattle.std.proofs.lemmas.Slice.Eq.{bytes_eq-Decides}
use Rattle.dd_faults.specs.{Tree.Fault, Repeats.first_repeat}

pub among : (seen : List (List ℕ)) (key : List ℕ) → Contains seen key → list_any (bytes_eq key) seen ≡ true
among seen key there = list_any-from_Contains nat_list_eq_equiv key seen there

pub not_among : (seen : List (List ℕ)) (key : List ℕ) → ¬ Contains seen key → list_any (bytes_eq key) seen ≡ false
not_among seen key h = false_from_ne_true (list_any (bytes_eq key) seen) (λ e. h (Contains-from_any (λ x y. (bytes_eq-Decides x y).0) key seen e))

module _ {X : Type 0} (key : X → List ℕ) (f : X → Fault) where
  unseen : (seen : List (List ℕ)) (xs : List X) (i : ℕ) (d : X) → first_repeat key f seen xs ≡ [] → i < length xs → list_any (bytes_eq (key (slice_index_or xs i d))) (seen ++ map key (take i xs)) ≡ false
  unseen seen [] i d none lt = absurd (omega (arith, lt))
  unseen seen (x ∷ xs) zero d none lt = grind (arith, common_steps)
  unseen seen (x ∷ xs) (suc i) d none lt = grind (arith, common_steps, unseen (seen ++ key x ∷ []) xs i d)

  pub once : (xs : List X) (i : ℕ) (d : X) → first_repeat key f [] xs ≡ [] → i < length xs → ¬ Contains (map key (take i xs)) (key (slice_index_or xs i d))
  once xs i d none lt there = true≢false (sym (among (map key (take i xs)) (key (slice_index_or xs i d)) there) ∙ unseen [] xs i d none lt)
