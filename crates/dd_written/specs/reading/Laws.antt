-- What the reader of formulas guarantees.
use Rattle.std.specs.Prelude.{◌≡◌, List, ◌++◌, true, Some}
use Rattle.dd_written.specs.{Tree.Lexeme, Tree.Formula, Formulas.text, Formulas.IsWrittenFormula}
use Rattle.dd_written.specs.reading.Formulas.{formula_at, ends}

-- If a formula is read from tokens, then the tokens begin with the text of the formula, and go on with the tokens that are left.
-- The formula may stand alone without parentheses, and its depth is at most 64. The text of each such formula is read as that
-- formula, unless `.` or a sign follows the text.
pub record FormulasAreRead : Type 0 where
  pub written : (tokens : List Lexeme) (x : Formula × List Lexeme) → formula_at tokens ≡ Some x → (tokens ≡ text x.0 ++ x.1) × IsWrittenFormula x.0
  pub read : (f : Formula) (rest : List Lexeme) → IsWrittenFormula f → ends 4 rest ≡ true → formula_at (text f ++ rest) ≡ Some (f, rest)
