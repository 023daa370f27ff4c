use Rattle.std.proofs.Common.{◌≡◌, map, take}
use Rattle.dd_fraction.specs.Exact.{whole_of}
use Rattle.dd_discharge.proofs.best.fractions.Given as goal

abbrev pub invariant-loop-number : goal.invariant-loop-number
invariant-loop-number l = l.fractions.items ≡ map whole_of (take l.number-index l.numbers)
