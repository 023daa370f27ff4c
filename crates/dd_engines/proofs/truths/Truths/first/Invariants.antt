use Rattle.std.proofs.Common.{◌≡◌}
use Rattle.dd_engines.specs.walking.Truths.{HasMarks}
use Rattle.dd_engines.proofs.truths.Truths.first.Given as goal

abbrev pub invariant-loop-block : goal.invariant-loop-block
invariant-loop-block l = record {
  listed : HasMarks l.self.counts.items l.self.marks.items l.block;
  counts : l.self.counts.items ≡ l.initial.self.counts.items;
}
