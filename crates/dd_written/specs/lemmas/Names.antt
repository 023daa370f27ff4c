-- Names are read as they are written.
use Rattle.std.proofs.Common.{◌≡◌, List, ◌∷◌, Some, refl, subst}
use Rattle.dd_written.specs.{Tree.Lexeme, Tree.Name, Formulas.name_lexeme, reading.Atoms.name_at, lemmas.Options.some_is}

pub name_sound : (tokens : List Lexeme) (n : Name) (rest : List Lexeme) → name_at tokens ≡ Some (n, rest) → tokens ≡ name_lexeme n ∷ rest
name_sound (Lexeme.Word w ∷ tokens) n rest e = subst (λ (x : Name × List Lexeme). Lexeme.Word w ∷ tokens ≡ name_lexeme x.0 ∷ x.1) (some_is _ _ e) refl
name_sound (Lexeme.Number m ∷ tokens) n rest e = subst (λ (x : Name × List Lexeme). Lexeme.Number m ∷ tokens ≡ name_lexeme x.0 ∷ x.1) (some_is _ _ e) refl
name_sound tokens n rest e = absurd cc

pub name_again : (n : Name) (rest : List Lexeme) → name_at (name_lexeme n ∷ rest) ≡ Some (n, rest)
name_again (Name.Word w) rest = refl
name_again (Name.Number n) rest = refl
