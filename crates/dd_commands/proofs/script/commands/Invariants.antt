use Rattle.std.proofs.Common.{◌+◌, ◌≤◌, length}
use Rattle.dd_commands.proofs.Parts.{Sofar}
use Rattle.dd_commands.proofs.script.commands.Given as goal

abbrev pub invariant-loop-rest : goal.invariant-loop-rest
invariant-loop-rest l = (l.number + length l.rest ≤ length l.tokens) × Sofar l.bytes l.tokens l.rest l.commands l.number l.from

abbrev pub decreases-loop-rest : goal.decreases-loop-rest
decreases-loop-rest l = length l.rest
