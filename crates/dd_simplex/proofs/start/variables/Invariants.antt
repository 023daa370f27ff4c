use Rattle.std.proofs.Common.{◌≡◌, ℕ, ◌<◌, length}
use Rattle.dd_simplex.specs.table.Lines.{other_at}
use Rattle.dd_simplex.proofs.start.variables.Given as goal

abbrev pub invariant-loop-j : goal.invariant-loop-j
invariant-loop-j l = record {
  size : length l.others.items ≡ l.j;
  each : (i : ℕ) → i < l.j → other_at l.others.items i ≡ i;
}
