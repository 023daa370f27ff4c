-- Bytes have at most one syntax tree and at most one syntax fault, and never both.
use Rattle.std.proofs.Common.{◌≡◌, ℕ, zero, suc, List, [], ◌∷◌, refl, sym, ap, subst, ◌∙◌}
use Rattle.dd_written.specs.{Lexemes.lexemes_of, reading.Laws.FormulasAreRead, lemmas.Options.some_is}
use Rattle.dd_commands.specs.{Tree.Lexeme, Tree.Written, Tree.Syntax, lemmas.Whole.written_again}
use Rattle.dd_commands.specs.Scripts.{parts, stage_after, MayStand, AreCommands, IsFirstBad, IsScript, IsSyntaxFault}

abbrev syntax_of : List ℕ → List Written → Syntax
syntax_of text cs = record { text = text; commands = cs }

module _ (law : FormulasAreRead) where
  one_command : (bytes : List ℕ) (from : ℕ) (p : List Lexeme) (c d : Written) → MayStand bytes from p c → MayStand bytes from p d → c ≡ d
  one_command bytes from p c d one other = some_is c d (sym (written_again law bytes from p c one) ∙ written_again law bytes from p d other)

  same_commands : (bytes : List ℕ) (from : ℕ) (ps : List (List Lexeme)) (cs ds : List Written) → AreCommands bytes from ps cs → AreCommands bytes from ps ds → cs ≡ ds
  same_commands bytes from [] [] [] one other = refl
  same_commands bytes from (p ∷ ps) (c ∷ cs) (d ∷ ds) one other =
      let same : c ≡ d = one_command bytes from p c d one.0 other.0 in
      let rest : cs ≡ ds = same_commands bytes (stage_after d) ps cs ds (subst (λ (e : Written). AreCommands bytes (stage_after e) ps cs) same one.1) other.1 in
      ap (λ (e : Written). e ∷ cs) same ∙ ap (λ (es : List Written). d ∷ es) rest
  same_commands bytes from ps cs ds one other = absurd search

  not_both : (bytes : List ℕ) (from : ℕ) (ps : List (List Lexeme)) (cs : List Written) (place : ℕ) → AreCommands bytes from ps cs → IsFirstBad bytes from ps place → ⊥
  not_both bytes from (p ∷ ps) (c ∷ cs) zero one bad = bad c one.0
  not_both bytes from (p ∷ ps) (c ∷ cs) (suc place) one bad =
      let same : c ≡ bad.0 = one_command bytes from p c bad.0 one.0 bad.1 in
      not_both bytes (stage_after bad.0) ps cs place (subst (λ (e : Written). AreCommands bytes (stage_after e) ps cs) same one.1) bad.2
  not_both bytes from ps cs place one bad = search

  one_bad : (bytes : List ℕ) (from : ℕ) (ps : List (List Lexeme)) (m n : ℕ) → IsFirstBad bytes from ps m → IsFirstBad bytes from ps n → m ≡ n
  one_bad bytes from (p ∷ ps) zero zero one other = refl
  one_bad bytes from (p ∷ ps) (suc m) (suc n) one other =
      let same : one.0 ≡ other.0 = one_command bytes from p one.0 other.0 one.1 other.1 in
      ap suc (one_bad bytes (stage_after other.0) ps m n (subst (λ (e : Written). IsFirstBad bytes (stage_after e) ps m) same one.2) other.2)
  one_bad bytes from ps m n one other = absurd search

  pub one_tree : (bytes : List ℕ) (s t : Syntax) → IsScript bytes s → IsScript bytes t → s ≡ t
  one_tree bytes s t one other =
      ap (λ (x : List ℕ). syntax_of x s.commands) (one.0 ∙ sym other.0) ∙ ap (λ (cs : List Written). syntax_of t.text cs) (same_commands bytes 0 (parts (lexemes_of bytes)).1 s.commands t.commands one.1.1 other.1.1)

  pub one_fault : (bytes : List ℕ) (m n : ℕ) → IsSyntaxFault bytes m → IsSyntaxFault bytes n → m ≡ n
  one_fault bytes zero zero one other = refl
  one_fault bytes (suc m) (suc n) one other = ap suc (one_bad bytes 0 (parts (lexemes_of bytes)).1 m n one.1 other.1)
  one_fault bytes m n one other = absurd search

  pub tree_or_fault : (bytes : List ℕ) (s : Syntax) (n : ℕ) → IsScript bytes s → IsSyntaxFault bytes n → ⊥
  tree_or_fault bytes s zero one bad = bad one.1.0
  tree_or_fault bytes s (suc n) one bad = not_both bytes 0 (parts (lexemes_of bytes)).1 s.commands n one.1.1 bad.1
