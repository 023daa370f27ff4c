-- Formulas, with numbers in place of names. A term, such as `o.rt.up`, is a variable followed by moves along edges. It names the cell to which the
-- moves lead. A ball has a variable as its centre, and a radius r. Its cells are those that are at most r edges away from the variable's cell. A
-- scope is the list of the bound variables, the outermost first. A chain is a list of formulas with the same connective between them.
use Rattle.std.specs.Prelude.{ℕ, List, [], ◌∷◌, ◌++◌, map, unwrap_or, if◌then◌else◌}
use Rattle.dd_meanings.specs.Tree.{Word, Name, Term as WrittenTerm, Comparand, Relation, Atom, Ball, Quantifier, Join, Formula as Written, Formula-F as Written-F, fold-Formula, Context}
use Rattle.dd_written.specs.Values.{written_value}
use Rattle.dd_expansion.specs.{declared.formulas.Term.Term, declared.formulas.BallOf.BallOf}
use Rattle.dd_expansion.specs.declared.formulas.Formula.{Formula, roll-Formula}
use Rattle.dd_expansion.specs.declared.formulas.Formula.TheOpen.{Formula-F}
use Rattle.dd_faults.specs.{Names.number_in, Names.variable_of, Formulas.names_symbol}
use Rattle.dd_meanings.specs.declared.atoms.Operand.{Operand}

-- the number of a variable, or 0 if the word is not a variable
abbrev pub variable_number : List ℕ → List Word → Word → ℕ
variable_number bytes scope w = unwrap_or (variable_of bytes scope w) 0

abbrev pub label_of : Context → Word → ℕ
label_of x w = number_in x.text x.known.setting.topology.labels (Name.Word w)

abbrev pub term_of : Context → List Word → WrittenTerm → Term
term_of x scope t = record { variable = variable_number x.text scope t.first; moves = map (label_of x) t.moves }

-- the right side of `=` or `!=`: a symbol or a term
abbrev pub side_of : Context → List Word → Comparand → Operand
side_of x scope (Comparand.Number n) = Operand.Symbol (number_in x.text x.known.setting.symbols (Name.Number n))
side_of x scope (Comparand.Term u) = if names_symbol x.text scope u then Operand.Symbol (number_in x.text x.known.setting.symbols (Name.Word u.first)) else Operand.Term (term_of x scope u)

abbrev pub equal_of : Term → Operand → Formula
equal_of t (Operand.Symbol n) = roll-Formula (Formula-F.Symbol t n)
equal_of t (Operand.Term u) = roll-Formula (Formula-F.Same t u)

abbrev pub not_equal_of : Term → Operand → Formula
not_equal_of t (Operand.Symbol n) = roll-Formula (Formula-F.NotSymbol t n)
not_equal_of t (Operand.Term u) = roll-Formula (Formula-F.NotSame t u)

-- What an atom says of its term t. The sign `@`, which is `Relation.Same`, says that two terms name the same cell. So it becomes `Formula-F.Place`;
-- `Formula-F.Same` compares symbols.
abbrev pub said_of : Context → List Word → Term → Relation → Formula
said_of x scope t (Relation.Equal r) = equal_of t (side_of x scope r)
said_of x scope t (Relation.NotEqual r) = not_equal_of t (side_of x scope r)
said_of x scope t (Relation.Adjacent u) = roll-Formula (Formula-F.Adjacent t (term_of x scope u))
said_of x scope t (Relation.Same u) = roll-Formula (Formula-F.Place t (term_of x scope u))
said_of x scope t (Relation.AtNode n) = roll-Formula (Formula-F.Node t (number_in x.text x.known.setting.nodes n))

abbrev pub atom_of : Context → List Word → Atom → Formula
atom_of x scope a = said_of x scope (term_of x scope a.term) a.relation

abbrev pub ball_of : Context → List Word → Ball → BallOf
ball_of x scope b = record { variable = variable_number x.text scope b.centre; radius = written_value x.text b.radius }

-- a chain of `->`, which groups to the right
abbrev pub implied_of : List Formula → Formula
implied_of [] = roll-Formula (Formula-F.And [])
implied_of (f ∷ []) = f
implied_of (f ∷ g ∷ gs) = roll-Formula (Formula-F.Implies f (implied_of (g ∷ gs)))

-- joins f, the part of a chain that is already joined, with the parts after it; `<->` groups to the left
abbrev pub iff_behind : Formula → List Formula → Formula
iff_behind f [] = f
iff_behind f (g ∷ gs) = iff_behind (roll-Formula (Formula-F.Iff f g)) gs

abbrev pub iff_of : List Formula → Formula
iff_of [] = roll-Formula (Formula-F.And [])
iff_of (f ∷ fs) = iff_behind f fs

abbrev pub joined_of : Join → List Formula → Formula
joined_of Join.And fs = roll-Formula (Formula-F.And fs)
joined_of Join.Or fs = roll-Formula (Formula-F.Or fs)
joined_of Join.Implies fs = implied_of fs
joined_of Join.Iff fs = iff_of fs

abbrev pub quantified_of : Quantifier → List BallOf → Formula → Formula
quantified_of Quantifier.All balls f = roll-Formula (Formula-F.ForAll balls f)
quantified_of Quantifier.Exists balls f = roll-Formula (Formula-F.Exists balls f)

-- What a formula means in a scope, given what its parts mean. The variable of a quantifier is in scope in the quantifier's body, but not in its
-- balls. Parentheses leave no trace.
abbrev pub formula_step : Context → Written-F (List Word → Formula) → List Word → Formula
formula_step x (Written-F.Atom a) scope = atom_of x scope a
formula_step x (Written-F.Not f) scope = roll-Formula (Formula-F.Not (f scope))
formula_step x (Written-F.Quantified q w balls f) scope = quantified_of q (map (ball_of x scope) balls) (f (scope ++ w ∷ []))
formula_step x (Written-F.Group f) scope = f scope
formula_step x (Written-F.Chain j fs) scope = joined_of j (map (λ f. f scope) fs)

-- what a written formula means in a scope
abbrev pub formula_of : Context → Written → List Word → Formula
formula_of x = fold-Formula (List Word → Formula) (formula_step x)
