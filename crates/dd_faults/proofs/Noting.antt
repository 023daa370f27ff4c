-- Noting two lists of faults, one after the other, is the same as noting the joined list.
use Rattle.std.proofs.Common.{◌≡◌, ℕ, ◌+◌, ◌<◌, List, [], ◌∷◌, ◌++◌, length, take, slice_index_or, Option, refl, arith}
use Rattle.std.proofs.lemmas.Grind.{common_steps}
use Rattle.std.specs.List.{flat_map}
use Rattle.dd_faults.specs.{Tree.Fault, Order.better, Order.noted, lemmas.Layers.faults_chain, lemmas.Layers.faults_quantified}
use Rattle.dd_faults.proofs.{Configurations.first_symbol, Configurations.first_of_box, Repeats.twice_first, Repeats.fresh_first}

pub noted_both : (found : Option Fault) (fs gs : List Fault) → noted found (fs ++ gs) ≡ noted (noted found fs) gs
noted_both found [] gs = refl
noted_both found (f ∷ fs) gs = noted_both (better found f) fs gs

-- what `grind` needs to show that the faults of a list, a formula or a configuration are noted
pub ruleset faults = (common_steps, noted_both, faults_chain, faults_quantified, first_symbol, first_of_box, twice_first, fresh_first)

-- the step of a loop that notes the faults of one more item
pub noted_item : {X : Type 0} (f : X → List Fault) (xs : List X) (i : ℕ) (x : X) (start found new : Option Fault) → i < length xs → x ≡ slice_index_or xs i x → found ≡ noted start (flat_map f (take i xs)) → new ≡ noted found (f x)
    → new ≡ noted start (flat_map f (take (i + 1) xs))
noted_item f xs i x start found new lt at so_far is = grind (arith, common_steps, noted_both)
