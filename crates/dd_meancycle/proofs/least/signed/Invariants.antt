use Rattle.std.proofs.Common.{◌≡◌, map, take}
use Rattle.std.specs.Prelude.{pos}
use Rattle.dd_meancycle.proofs.least.signed.Given as goal

abbrev pub invariant-loop-potential : goal.invariant-loop-potential
invariant-loop-potential l = l.numbers.items ≡ map pos (take l.potential-index l.potentials)
