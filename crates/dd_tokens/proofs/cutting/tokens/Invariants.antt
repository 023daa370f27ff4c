use Rattle.std.proofs.Common.{◌≡◌, ◌≤◌, ◌+◌, length}
use Rattle.dd_tokens.specs.Format.{tokens_of, tokens_after, with_front}
use Rattle.dd_tokens.proofs.cutting.tokens.Given as goal

abbrev pub invariant-loop-rest : goal.invariant-loop-rest
invariant-loop-rest l =
    (l.position + length l.rest ≡ length l.bytes) × (length l.list ≤ l.position)
    × (with_front l.list (tokens_after 0 l.position l.rest) ≡ tokens_of l.bytes)

abbrev pub decreases-loop-rest : goal.decreases-loop-rest
decreases-loop-rest l = length l.rest
