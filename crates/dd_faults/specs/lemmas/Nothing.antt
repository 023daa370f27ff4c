-- If a list of faults is empty, so is each part of it, and each condition under which it would have a fault is false. If a list has no first fault of
-- the lowest rank, it is empty.
use Rattle.std.proofs.Common.{◌≡◌, ℕ, ◌<◌, Bool, true, false, List, [], ◌∷◌, ◌++◌, length, None, Some, refl, arith}
use Rattle.std.specs.List.{All, flat_map}
use Rattle.std.proofs.lemmas.{List.Elements.All-nil, List.Elements.All-cons, Grind.common_steps}
use Rattle.dd_faults.specs.{Tree.Name, Tree.Limit, Tree.Fault, Order.noted, Order.first_fault, Order.over, Names.missing, Names.number_in}
use Rattle.dd_faults.specs.Commands.{dimension_unless}

pub both_nil : {X : Type 0} (xs ys : List X) → xs ++ ys ≡ [] → (xs ≡ []) × (ys ≡ [])
both_nil [] ys e = (refl, e)
both_nil (x ∷ xs) ys e = absurd cc

-- if each element without a fault has the property P, and no element has a fault, then all elements have P
pub all_where : {X Y : Type 0} (P : X → Type 0) (f : X → List Y) → ((x : X) → f x ≡ [] → P x) → (xs : List X) → flat_map f xs ≡ [] → All P xs
all_where P f each [] h = All-nil P
all_where P f each (x ∷ xs) h = (let parts = both_nil (f x) (flat_map f xs) h in All-cons P x xs (each x parts.0) (all_where P f each xs parts.1))

pub fits : (b : Bool) → dimension_unless b ≡ [] → b ≡ true
fits true e = refl
fits false e = absurd cc

pub within : (b : Bool) (l : Limit) → over b l ≡ [] → b ≡ false
within true l e = absurd cc
within false l e = refl

-- what `grind` needs to take apart a list of faults that is empty
pub ruleset parts = (common_steps, both_nil, fits, within)

-- a name that is not missing has an index below the number of names
pub number_below : (bytes : List ℕ) (names : List (List ℕ)) (n : Name) → missing bytes names n ≡ [] → number_in bytes names n < length names
number_below bytes names n none = grind (arith, parts)

-- once a fault is noted, some fault stays noted
pub some_stays : (g : Fault) (fs : List Fault) → noted (Some g) fs ≡ None → ⊥
some_stays g [] e = absurd cc
some_stays g (f ∷ fs) e = grind (arith, some_stays f fs, some_stays g fs)

-- if there is no first fault, there is no fault
pub none_first : (fs : List Fault) → first_fault fs ≡ None → fs ≡ []
none_first [] e = refl
none_first (f ∷ fs) e = absurd (some_stays f fs e)
