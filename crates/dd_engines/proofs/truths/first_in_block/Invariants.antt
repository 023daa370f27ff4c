use Rattle.std.proofs.Common.{◌*◌}
use Rattle.dd_engines.specs.walking.Truths.{NoneWithin}
use Rattle.dd_engines.proofs.truths.first_in_block.Given as goal

abbrev pub invariant-loop-number : goal.invariant-loop-number
invariant-loop-number l = NoneWithin l.counts (32 * l.block) l.number
