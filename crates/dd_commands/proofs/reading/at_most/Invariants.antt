use Rattle.std.proofs.Common.{◌≡◌, ◌-◌}
use Rattle.dd_written.specs.reading.Readers.{with_front}
use Rattle.dd_commands.specs.reading.Forms.{at_most}
use Rattle.dd_commands.proofs.reading.at_most.Given as goal

abbrev pub invariant-loop : goal.invariant-loop
invariant-loop g l = with_front l.items (at_most (g.T.FromTokens.item l.from.bytes.now) (l.most - l.counter) l.rest) ≡ at_most (g.T.FromTokens.item l.from.bytes.now) l.most l.tokens
