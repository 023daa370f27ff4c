-- Appending the texts of a list's items, one after another.
use Rattle.std.proofs.Common.{◌≡◌, ℕ, ◌+◌, ◌<◌, List, ◌++◌, length, take, get_or, arith}
use Rattle.std.specs.List.{flat_map}
use Rattle.std.proofs.lemmas.Grind.{common_steps}

-- if a text ends with the texts of the first i items, and the next item's text is appended, it ends with the texts of the first i + 1 items
pub item_more : {A : Type 0} (t : A → List ℕ) (old now new : List ℕ) (xs : List A) (i : ℕ) (x y : A) → i < length xs → now ≡ old ++ flat_map t (take i xs)
    → x ≡ get_or xs i x → y ≡ x → new ≡ now ++ t y → new ≡ old ++ flat_map t (take (i + 1) xs)
item_more t old now new xs i x y within so_far there same more = grind (arith, common_steps)
