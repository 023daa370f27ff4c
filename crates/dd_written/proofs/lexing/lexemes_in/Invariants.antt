use Rattle.std.proofs.Common.{◌≡◌, map, take}
use Rattle.dd_written.specs.Lexemes.{lexeme_of}
use Rattle.dd_written.proofs.lexing.lexemes_in.Given as goal

abbrev pub invariant-loop-token : goal.invariant-loop-token
invariant-loop-token l = l.lexemes ≡ map (lexeme_of l.bytes) (take l.token-index l.list)
