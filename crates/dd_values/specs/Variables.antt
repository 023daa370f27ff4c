-- Truth values of numbered variables.
use Rattle.std.specs.Prelude.{ℕ, ◌-◌, Bool, false, List, slice_index_or}

-- Whether the variable k is true under a list of truth values. Variables are numbered from 1: the value of k is the item at index
-- k - 1, or false past the end of the list. (No variable has the number 0. Here 0 - 1 is 0, so 0 gets the value of variable 1.)
abbrev pub true_variables : List Bool → ℕ → Bool
true_variables values k = slice_index_or values (k - 1) false
