use Rattle.std.proofs.Common.{◌≡◌, ◌≤◌, min, drop}
use Rattle.dd_written.specs.Values.{decimal}
use Rattle.dd_written.proofs.text.decimal.Given as goal

abbrev pub invariant-loop-digit : goal.invariant-loop-digit
invariant-loop-digit l = (l.value ≤ 4294967295) × (min (decimal l.value (drop l.digit-index l.digits)) 4294967295 ≡ min (decimal 0 l.digits) 4294967295)
