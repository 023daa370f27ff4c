-- Each command that is read is spelled by the tokens that are stored with it, and the bytes of a script are ASCII.
use Rattle.std.proofs.Common.{◌≡◌, ℕ, ◌<◌, Bool, true, false, List, [], ◌∷◌, ◌++◌, map, length, refl, sym, ap, subst, ◌==◌, ◌&&◌, if◌then◌else◌, All, IsAscii}
use Rattle.std.specs.{List.list_all, Char.is_ascii}
use Rattle.std.proofs.lemmas.{Bool.ltb-true, Bool.and_parts, Bool.and_from, List.Elements.All-nil, List.Elements.All-cons, List.Elements.All-weaker, List.Sums.AllPass-from_list_all}
use Rattle.std.proofs.lemmas.Str.Ascii.{IsAscii-from_all}
use Rattle.dd_tokens.specs.Format.{tokens_of}
use Rattle.dd_commands.specs.{Tree.Mark, Tree.Lexeme, Tree.Written, Commands.IsCommand}
use Rattle.dd_written.specs.Lexemes.{lexeme_of, lexemes_of}
use Rattle.dd_commands.specs.Scripts.{parts, is_whole, stage_after, AreCommands, AreWritten, IsWritten}

pub all_written : (bytes : List ℕ) (from : ℕ) (ps : List (List Lexeme)) (ws : List Written) → AreCommands bytes from ps ws → All (IsWritten bytes) ws × (list_all (list_all is_whole) ps ≡ true)
all_written bytes from [] [] each = (All-nil (IsWritten bytes), refl)
all_written bytes from (p ∷ ps) (w ∷ ws) each =
    let more = all_written bytes (stage_after w) ps ws each.1 in
    (All-cons (IsWritten bytes) w ws (record { is = subst (IsCommand bytes w.command) (sym each.0.tokens) each.0.is }) more.0, and_from _ _ each.0.whole more.1)
all_written bytes from ps ws each = absurd search

-- the tokens, with a stray one at the end unless `ends` is true
abbrev with_end : Bool → List Lexeme → List Lexeme
with_end ends tokens = tokens ++ (if ends then [] else Lexeme.Stray ∷ [])

-- if neither the parts nor the tokens before them have a stray token, there is none at the end
no_stray : (ends : Bool) (tokens : List Lexeme) → list_all is_whole (parts (with_end ends tokens)).0 ≡ true → list_all (list_all is_whole) (parts (with_end ends tokens)).1 ≡ true → ends ≡ true
no_stray true tokens before each = refl
no_stray false [] before each = absurd cc
no_stray false (Lexeme.Mark Mark.Percent ∷ tokens) before each = (let both = and_parts _ _ each in no_stray false tokens both.0 both.1)
no_stray false (t ∷ tokens) before each = no_stray false tokens (and_parts (is_whole t) (list_all is_whole (parts (with_end false tokens)).0) before).1 each

pub ascii_text : (bytes : List ℕ) (ws : List Written) → AreWritten bytes (lexemes_of bytes) ws → IsAscii bytes
ascii_text bytes ws is =
    let whole = (tokens_of bytes).stop == length bytes in
    let each = (all_written bytes 0 (parts (lexemes_of bytes)).1 ws is.1).1 in
    let clean = and_parts whole (list_all is_ascii bytes) (no_stray (whole && list_all is_ascii bytes) (map (lexeme_of bytes) (tokens_of bytes).list) (ap (list_all is_whole) is.0) each) in
    IsAscii-from_all bytes (All-weaker (λ b. is_ascii b ≡ true) (λ b. b < 128) (λ b. ltb-true b 128) bytes (AllPass-from_list_all is_ascii bytes clean.1))
