-- Bytes spell a script or are refused.
use Rattle.std.proofs.Common.{◌≡◌, ◌⊎◌, ℕ, zero, suc, List, [], ◌∷◌, Option, Some, None, refl, sym, ◌∙◌, inl, inr, arith}
use Rattle.dd_script.specs.{Tree.Lexeme, Tree.Written, Tree.Syntax, Parts.Parts, Walk.Located, Walk.first_located_fault, Walk.script_of}
use Rattle.dd_script.specs.Scripts.{Spells, RefusalKind, syntax, kind_of, RefusedAs}
use Rattle.dd_written.specs.{Lexemes.lexemes_of, reading.Laws.FormulasAreRead, lemmas.Options.nothing_some}
use Rattle.dd_commands.specs.Scripts.{parts, stage_after, AreCommands, IsFirstBad, IsScript}
use Rattle.dd_commands.specs.{reading.Parts.written_of, lemmas.Whole.written_sound, lemmas.Whole.written_again}

abbrev SpelledOrRefused : List ℕ → Type 0
SpelledOrRefused bytes = ((s : Parts) × Spells bytes s) ⊎ ((n : ℕ) × (k : RefusalKind) × RefusedAs bytes n k)

by_first : (bytes : List ℕ) (tree : Syntax) → IsScript bytes tree → (found : Option Located) → first_located_fault bytes tree.commands ≡ found → SpelledOrRefused bytes
by_first bytes tree written None none = inl (script_of bytes tree.commands, grind arith)
by_first bytes tree written (Some x) is = inr (x.command, kind_of bytes x.fault, grind arith)

abbrev CommandsOrBad : List ℕ → ℕ → List (List Lexeme) → Type 0
CommandsOrBad bytes from ps = ((ws : List Written) × AreCommands bytes from ps ws) ⊎ ((place : ℕ) × IsFirstBad bytes from ps place)

module _ (law : FormulasAreRead) (bytes : List ℕ) where
  one_more : (from : ℕ) (p : List Lexeme) (ps : List (List Lexeme)) → ((n : ℕ) → CommandsOrBad bytes n ps) → (read : Option Written) → written_of bytes from p ≡ read → CommandsOrBad bytes from (p ∷ ps)
  one_more from p ps rest None e = inr (zero, λ w may. nothing_some w (sym e ∙ written_again law bytes from p w may))
  one_more from p ps rest (Some w) e =
      elim (rest (stage_after w)) [
        | inl others ↦ inl (w ∷ others.0, (written_sound law bytes from p w e, others.1))
        | inr bad ↦ inr (suc bad.0, (w, written_sound law bytes from p w e, bad.1))
      ]

  commands_or_bad : (ps : List (List Lexeme)) (from : ℕ) → CommandsOrBad bytes from ps
  commands_or_bad [] from = inl ([], tt)
  commands_or_bad (p ∷ ps) from = one_more from p ps (commands_or_bad ps) (written_of bytes from p) refl

  pub spelled_or_refused : (before : List Lexeme) → (parts (lexemes_of bytes)).0 ≡ before → SpelledOrRefused bytes
  spelled_or_refused [] clean =
      elim (commands_or_bad (parts (lexemes_of bytes)).1 0) [
        | inl are ↦ by_first bytes (record { text = bytes; commands = are.0 }) (refl, (clean, are.1)) _ refl
        | inr bad ↦ inr (suc bad.0, syntax, (clean, bad.1))
      ]
  spelled_or_refused (t ∷ before) is = inr (zero, syntax, λ none. cc)
