use Rattle.std.proofs.Common.{◌≡◌, drop}
use Rattle.dd_output.specs.reading.Stops.{word_at}
use Rattle.dd_output.proofs.lexing.word_at.Given as goal

abbrev pub invariant-loop-letter : goal.invariant-loop-letter
invariant-loop-letter l = word_at (drop l.letter-index l.word) l.rest ≡ word_at l.word l.bytes
