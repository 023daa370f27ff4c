-- What a loop over a list has made, after one more element.
use Rattle.std.proofs.Common.{◌≡◌, ℕ, ◌+◌, ◌<◌, List, [], ◌∷◌, ◌++◌, length, map, take, slice_index_or, arith}
use Rattle.std.proofs.lemmas.Grind.{common_steps}

pub made_item : {X Y : Type 0} (f : X → Y) (xs : List X) (i : ℕ) (x : X) (old new : List Y) (y : Y) → i < length xs → x ≡ slice_index_or xs i x → old ≡ map f (take i xs) → y ≡ f x → new ≡ old ++ y ∷ [] → new ≡ map f (take (i + 1) xs)
made_item f xs i x old new y lt at before is made = grind (arith, common_steps)
