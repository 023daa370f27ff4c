-- A command that was read has a body: the tokens after its first word. The conditions of its cases are at most 64 deep.
use Rattle.std.proofs.Common.{◌≡◌, ℕ, ◌≤◌, List, [], ◌∷◌, subst}
use Rattle.std.proofs.lemmas.List.Elements.{All-nil, All-cons}
use Rattle.std.specs.List.{All}
use Rattle.dd_meanings.specs.Tree.{Lexeme, Case, Command, Written}
use Rattle.dd_written.specs.{Formulas.tree_depth, reading.Readers.ReadsAll}
use Rattle.dd_commands.specs.{Commands.IsCase, Commands.IsBody, Scripts.IsWritten}

-- the tokens of the command's body
pub body : (bytes : List ℕ) (w : Written) (c : Command) → w.command ≡ c → IsWritten bytes w → (tokens : List Lexeme) × IsBody bytes c tokens
body bytes w c is h = (h.is.0, subst (λ (d : Command). IsBody bytes d h.is.0) is h.is.2)

pub all_shallow : (bytes : List ℕ) (cases : List Case) (tokens rest : List Lexeme) → ReadsAll (IsCase bytes) cases tokens rest → All (λ c. tree_depth c.condition ≤ 64) cases
all_shallow bytes [] tokens rest h = All-nil (λ c. tree_depth c.condition ≤ 64)
all_shallow bytes (c ∷ cases) tokens rest h = All-cons (λ c. tree_depth c.condition ≤ 64) c cases h.1.condition.shallow (all_shallow bytes cases h.0 rest h.2)
