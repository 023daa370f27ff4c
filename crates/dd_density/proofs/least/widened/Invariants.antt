use Rattle.std.proofs.Common.{◌≡◌, ◌<◌, ◌^◌, take}
use Rattle.std.specs.List.{All}
use Rattle.dd_density.proofs.least.widened.Given as goal

abbrev pub invariant-loop-number : goal.invariant-loop-number
invariant-loop-number l = record {
  same : l.wide.items ≡ take l.number-index l.numbers;
  small : All (λ n. n < 2 ^ 32) l.wide.items;
}
