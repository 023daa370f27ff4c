use Rattle.std.proofs.Common.{◌≡◌, ◌<◌, ◌≤◌, drop}
use Rattle.std.specs.List.{fold}
use Rattle.dd_values.specs.Bounds.{most_number}
use Rattle.dd_discharge.specs.Denominators.{joined_denominator}
use Rattle.dd_discharge.proofs.denominators.joined_all.Given as goal

abbrev pub invariant-loop-fraction : goal.invariant-loop-fraction
invariant-loop-fraction l = record {
  above : 0 < l.common;
  below : l.common ≤ most_number;
  same : fold joined_denominator l.fn.common l.fractions ≡ fold joined_denominator l.common (drop l.fraction-index l.fractions);
}
