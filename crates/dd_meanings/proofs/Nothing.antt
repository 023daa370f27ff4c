-- If a list of faults is empty, so is each part of it.
use Rattle.std.proofs.Common.{◌≡◌, ℕ, ◌+◌, ◌<◌, List, [], length, drop, slice_index_or, arith}
use Rattle.std.specs.List.{flat_map}
use Rattle.std.proofs.lemmas.{Bool.Decides.nat_tests, List.length-map}
use Rattle.dd_faults.specs.lemmas.Nothing.{all_where, parts as apart}

-- what `grind` needs to split an empty list of faults into its parts
pub ruleset parts = (apart, nat_tests, length-map)

-- if the elements from i on have no fault, then element i has none, and those after it have none
pub none_from : {X Y : Type 0} (f : X → List Y) (xs : List X) (i : ℕ) (x : X) → i < length xs → x ≡ slice_index_or xs i x → flat_map f (drop i xs) ≡ [] → (f x ≡ []) × (flat_map f (drop (i + 1) xs) ≡ [])
none_from f xs i x lt at none = grind (arith, parts)

pub none_at : {X Y : Type 0} (f : X → List Y) (xs : List X) (i : ℕ) (d : X) → i < length xs → flat_map f xs ≡ [] → f (slice_index_or xs i d) ≡ []
none_at f xs i d lt h = all_where (λ x. f x ≡ []) f (λ x e. e) xs h i d lt
