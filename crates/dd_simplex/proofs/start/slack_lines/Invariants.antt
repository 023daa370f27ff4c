use Rattle.std.proofs.Common.{◌≡◌, ℕ, ◌+◌, ◌<◌, length}
use Rattle.dd_simplex.specs.{Programs.program_row, table.Lines.line_at, table.Steps.IsLineOf}
use Rattle.dd_simplex.proofs.start.slack_lines.Given as goal

abbrev pub invariant-loop-i : goal.invariant-loop-i
invariant-loop-i l = record {
  size : length l.lines.items ≡ l.i;
  each : (j : ℕ) → j < l.i → IsLineOf (program_row l.rows j) (l.columns + j) (line_at l.lines.items j);
}
