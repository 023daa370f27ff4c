-- Reading the parts of a script one after another.
use Rattle.std.specs.Prelude.{ℕ, List, Bool, not, Option, Some, None, Result, Ok, Err, nat_le, ◌&&◌, if◌then◌else◌}
use Rattle.std.specs.List.{list_all}
use Rattle.dd_commands.specs.{Tree.Lexeme, Tree.Written, Tree.SyntaxFault, reading.Commands.command_of}
use Rattle.dd_written.specs.reading.Readers.{◌>>=◌}
use Rattle.dd_commands.specs.{Heads.head_of, Heads.stage, Scripts.is_percent, Scripts.is_whole, Scripts.AreWritten, Scripts.IsBadCommand}

-- whether a token is not a `%`; each part ends before the next `%`
abbrev pub is_inside : Lexeme → Bool
is_inside t = not (is_percent t)

-- the command that is read from a part, if no token of the part is stray and the stage of the command is at least `from`
abbrev pub written_of : List ℕ → ℕ → List Lexeme → Option Written
written_of bytes from part =
    command_of bytes part >>= λ c. if list_all is_whole part && nat_le from (stage (head_of c)) then Some (record { tokens = part; command = c }) else None

-- What the result of reading all parts says about the tokens. If memory ran out, it says nothing.
abbrev pub IsPartsReading : List ℕ → List Lexeme → Result (List Written) SyntaxFault → Type 0
IsPartsReading bytes tokens (Ok ws) = AreWritten bytes tokens ws
IsPartsReading bytes tokens (Err (SyntaxFault.At n)) = IsBadCommand bytes tokens n
IsPartsReading bytes tokens (Err SyntaxFault.Memory) = Unit {0}
