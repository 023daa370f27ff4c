use Rattle.std.proofs.Common.{◌≡◌, ◌<◌, ◌≤◌, length}
use Rattle.std.specs.List.{All}
use Rattle.dd_engines.specs.walking.{Truths.HasMarks, Truths.changed, Truths.more, Chains.chain_of}
use Rattle.dd_engines.proofs.truths.Truths.raise.Given as goal

abbrev pub invariant-loop-at : goal.invariant-loop-at
invariant-loop-at l = record {
  counts : changed more (chain_of l.chains.links.items l.at) l.self.counts.items ≡ changed more (chain_of l.chains.links.items l.initial.at) l.initial.self.counts.items;
  within : All (λ k. k < length l.self.counts.items) (chain_of l.chains.links.items l.at);
  few : l.at ≤ length l.chains.links.items;
  listed : HasMarks l.self.counts.items l.self.marks.items l.self.first_block;
}

abbrev pub decreases-loop-at : goal.decreases-loop-at
decreases-loop-at l = l.at
