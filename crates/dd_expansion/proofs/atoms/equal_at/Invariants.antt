use Rattle.std.proofs.Common.{◌≡◌, ◌+◌, ◌*◌, map}
use Rattle.std.specs.List.{range_with_len}
use Rattle.dd_expansion.specs.Expansion.{both_have}
use Rattle.dd_expansion.proofs.atoms.equal_at.Given as goal

abbrev pub invariant-loop-symbol : goal.invariant-loop-symbol
invariant-loop-symbol l = record {
  made : l.parts ≡ map (both_have l.first l.second) (range_with_len 0 l.symbol);
  paid : l.budget + 3 * l.symbol ≡ l.initial.budget;
}
