-- Atoms: the formulas about the cells of one or two terms. A conjunction or disjunction is not an atom, even if it has no parts.
use Rattle.std.specs.Prelude.{Bool, true, false}
use Rattle.dd_expansion.specs.declared.formulas.Formula.{Formula}
use Rattle.dd_expansion.specs.declared.formulas.Formula.TheVariants.{Symbol, NotSymbol, Same, NotSame, Adjacent, Place, Node}

abbrev pub is_atom : Formula → Bool
is_atom (Symbol t s) = true
is_atom (NotSymbol t s) = true
is_atom (Same t u) = true
is_atom (NotSame t u) = true
is_atom (Adjacent t u) = true
is_atom (Place t u) = true
is_atom (Node t n) = true
is_atom f = false
