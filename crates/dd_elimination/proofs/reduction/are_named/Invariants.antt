use Rattle.std.proofs.Common.{ℕ, ◌<◌, [], get_or, map}
use Rattle.dd_elimination.specs.{Reductions.IsNamed, Renaming.new_name, Renaming.renamed}
use Rattle.dd_elimination.proofs.reduction.are_named.Given as goal

abbrev pub invariant-loop-place : goal.invariant-loop-place
invariant-loop-place l = (k : ℕ) → k < l.place → IsNamed l.known (get_or l.numbers k 0) (map (renamed (new_name l.names)) (get_or l.clauses k []))
