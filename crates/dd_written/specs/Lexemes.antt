-- Lexemes: the tokens of a script, as the grammar sees them.
use Rattle.std.specs.Prelude.{ℕ, List, [], ◌∷◌, ◌++◌, length, map, take, drop, ◌==◌, ◌&&◌, Option, Some, None, if◌then◌else◌, codes, bytes_eq}
use Rattle.std.specs.{List.find, List.zip, List.list_all, Option.option_map, Char.is_ascii}
use Rattle.dd_tokens.specs.{declared.token.Token.Token, declared.token.TokenKind.TokenKind, Format.tokens_of}
use Rattle.dd_written.specs.Tree.{Mark, Lexeme}

-- the marks that consist of one byte, each paired with that byte
abbrev pub one_byte_marks : List (ℕ × Mark)
one_byte_marks =
    zip (codes "AE%()[].=!&|~@:") (Mark.All ∷ Mark.Exists ∷ Mark.Percent ∷ Mark.Open ∷ Mark.Close ∷ Mark.OpenList ∷ Mark.CloseList
    ∷ Mark.Dot ∷ Mark.Equal ∷ Mark.Not ∷ Mark.And ∷ Mark.Or ∷ Mark.Tilde ∷ Mark.At ∷ Mark.Colon ∷ [])

abbrev pub one_byte_mark : ℕ → Option Mark
one_byte_mark b = option_map (λ s. s.1) (find (λ s. b == s.0) one_byte_marks)

-- the mark with this text
abbrev pub mark_at : List ℕ → Option Mark
mark_at (b ∷ []) = one_byte_mark b
mark_at written =
    if bytes_eq written (codes "!=") then Some Mark.NotEqual
    else (if bytes_eq written (codes "->") then Some Mark.Arrow
    else (if bytes_eq written (codes "<->") then Some Mark.BothWays
    else None))

abbrev pub marked : Option Mark → Lexeme
marked (Some m) = Lexeme.Mark m
marked None = Lexeme.Stray

-- the lexeme of a token that was cut from these bytes
abbrev pub lexeme_of : List ℕ → Token → Lexeme
lexeme_of bytes t = elim t.kind as (λ kind. Lexeme) [
  | TokenKind.Word ↦ Lexeme.Word (record { start = t.start; length = t.length })
  | TokenKind.Number ↦ Lexeme.Number (record { start = t.start; length = t.length })
  | TokenKind.Negative ↦ Lexeme.Negative (record { start = t.start; length = t.length })
  | TokenKind.Mark ↦ marked (mark_at (take t.length (drop t.start bytes)))
]

-- what comes after the lexemes of the tokens: nothing if all bytes are allowed, otherwise `Stray`
abbrev pub stray : List ℕ → List Lexeme
stray bytes = if (tokens_of bytes).stop == length bytes && list_all is_ascii bytes then [] else Lexeme.Stray ∷ []

-- the lexemes of a script
abbrev pub lexemes_of : List ℕ → List Lexeme
lexemes_of bytes = map (lexeme_of bytes) (tokens_of bytes).list ++ stray bytes
