-- The first item that repeats an earlier one, found by a loop over the items.
use Rattle.std.proofs.Common.{◌≡◌, ℕ, ◌+◌, ◌<◌, List, [], ◌∷◌, ◌++◌, length, drop, slice_index_or, Contains, refl, sym, ◌∙◌, arith}
use Rattle.std.proofs.lemmas.Grind.{common_steps}
use Rattle.dd_faults.specs.{Tree.Fault, Repeats.first_repeat, lemmas.Repeats.among, lemmas.Repeats.not_among}

-- If the first item repeats one that was seen, the result is the first item's fault (`twice_first`). Otherwise the search goes on with the rest
-- (`fresh_first`).
module _ {X : Type 0} (key : X → List ℕ) (f : X → Fault) (seen : List (List ℕ)) (x : X) (rest all : List X) where
  pub twice_first : all ≡ x ∷ rest → Contains seen (key x) → first_repeat key f seen all ≡ f x ∷ []
  twice_first is there = rw (is, among seen (key x) there) refl

  pub fresh_first : all ≡ x ∷ rest → ¬ Contains seen (key x) → first_repeat key f seen all ≡ first_repeat key f (seen ++ key x ∷ []) rest
  fresh_first is fresh = rw (is, not_among seen (key x) fresh) refl

-- if the item at the loop's index repeats one that was seen, its fault is that of the first repetition
pub twice_at : {X : Type 0} (key : X → List ℕ) (f : X → Fault) (seen : List (List ℕ)) (xs : List X) (i : ℕ) (x : X) → i < length xs → x ≡ slice_index_or xs i x → first_repeat key f seen (drop i xs) ≡ first_repeat key f [] xs →
    Contains seen (key x) → first_repeat key f [] xs ≡ f x ∷ []
twice_at key f seen xs i x lt at so_far there =
    let left : drop i xs ≡ x ∷ drop (i + 1) xs = grind (arith, common_steps) in sym so_far ∙ twice_first key f seen x (drop (i + 1) xs) (drop i xs) left there
