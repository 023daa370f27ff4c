use Rattle.std.proofs.Common.{◌≡◌, ◌++◌, ◌^◌, ◌<◌, ◌≤◌, drop}
use Rattle.std.specs.Fmt.{decimal}
use Rattle.dd_certificate.proofs.decimal.write_digits.Given as goal

abbrev pub invariant-loop-rest : goal.invariant-loop-rest
invariant-loop-rest l = record {
  room : 1 ≤ l.at;
  within : l.at ≤ 20;
  small : l.rest < 10 ^ l.at;
  fits : l.rest < 2 ^ 64;
  written : decimal l.number ++ drop 20 l.initial.digits ≡ decimal l.rest ++ drop l.at l.digits;
}

abbrev pub decreases-loop-rest : goal.decreases-loop-rest
decreases-loop-rest l = l.rest
