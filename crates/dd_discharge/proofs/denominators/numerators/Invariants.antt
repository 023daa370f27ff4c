use Rattle.std.proofs.Common.{◌≡◌, ◌<◌, ◌≤◌, map, take}
use Rattle.std.specs.List.{All}
use Rattle.dd_values.specs.Bounds.{most_number}
use Rattle.dd_discharge.specs.Denominators.{numerator_over}
use Rattle.dd_discharge.proofs.denominators.numerators.Given as goal

abbrev pub invariant-loop-fraction : goal.invariant-loop-fraction
invariant-loop-fraction l = record {
  numbers : l.numbers ≡ map (numerator_over l.common) (take l.fraction-index l.fractions);
  printed : All (λ a. numerator_over l.common a ≤ most_number) (take l.fraction-index l.fractions);
}
