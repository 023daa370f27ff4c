use Rattle.std.proofs.Common.{ℕ, ◌<◌, ◌≤◌, get_or}
use Rattle.dd_elimination.proofs.reduction.are_names.Given as goal

abbrev pub invariant-loop-name : goal.invariant-loop-name
invariant-loop-name l = record { ascend : (j k : ℕ) → j < k → k < l.name-index → get_or l.names j 0 < get_or l.names k 0; positive : (k : ℕ) → k < l.name-index → 1 ≤ get_or l.names k 0; most : (k : ℕ) → k < l.name-index → get_or l.names k 0 ≤ l.last }
