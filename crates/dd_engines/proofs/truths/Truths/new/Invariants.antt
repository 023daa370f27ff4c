use Rattle.std.proofs.Common.{◌≡◌, ◌<◌, ◌^◌, length, map, take}
use Rattle.std.specs.List.{All}
use Rattle.dd_engines.specs.walking.Truths.{true_count}
use Rattle.dd_engines.proofs.truths.Truths.new.Given as goal

abbrev pub invariant-loop-clause : goal.invariant-loop-clause
invariant-loop-clause l = record {
  counts : l.counts.items ≡ map (true_count l.values) (take l.clause-index l.clauses);
  short : All (λ clause. length clause < 2 ^ 64) (take l.clause-index l.clauses);
}
