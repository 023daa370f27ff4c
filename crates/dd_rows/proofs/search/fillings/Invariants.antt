use Rattle.std.proofs.Common.{◌≡◌, ◌≤◌, ℕ, take, length}
use Rattle.dd_rows.specs.Fillings.{fillings, most_fillings}
use Rattle.dd_rows.proofs.search.fillings.Given as goal

abbrev pub invariant-loop-k : goal.invariant-loop-k
invariant-loop-k l =
    (l.level ≡ fillings l.rule (take l.k l.cells)) × ((i : ℕ) → i ≤ l.k → length (fillings l.rule (take i l.cells)) ≤ most_fillings)
