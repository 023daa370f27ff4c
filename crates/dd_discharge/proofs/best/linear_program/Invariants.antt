use Rattle.std.proofs.Common.{◌≡◌, ◌≤◌, take}
use Rattle.dd_discharge.specs.Bounds.{in_fractions}
use Rattle.dd_discharge.proofs.best.linear_program.Given as goal

abbrev pub invariant-loop-i : goal.invariant-loop-i
invariant-loop-i l = record { above : 1 ≤ l.i; program : l.program ≡ in_fractions l.columns (take l.i l.rows) }
