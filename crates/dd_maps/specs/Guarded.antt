-- The guarded formula. It says that a formula is true at the cell, and that the cell's symbol is one that its node allows.
use Rattle.std.specs.Prelude.{ℕ, Bool, not, List, [], ◌∷◌, map}
use Rattle.std.specs.List.{list_all, filter, range_with_len}
use Rattle.dd_topology.specs.Sets.{SymbolSets, allows}
use Rattle.dd_expansion.specs.declared.formulas.{Term.Term, Formula.Formula}
use Rattle.dd_expansion.specs.declared.formulas.Formula.TheVariants as v

-- the term that names the cell at which a formula is evaluated
abbrev pub here : Term
here = record { variable = 0; moves = [] }

-- the cell's symbol is t
abbrev pub symbol_is : ℕ → Formula
symbol_is t = v.Symbol here t

-- the symbols that a node allows, in order
abbrev pub allowed_symbols : SymbolSets → ℕ → List ℕ
allowed_symbols s a = filter (allows s a) (range_with_len 0 s.symbols)

-- the guard of a node: the cell isn't at this node, or has a symbol that the node allows
abbrev pub guard : SymbolSets → ℕ → Formula
guard s a = v.Or (v.Not (v.Node here a) ∷ map symbol_is (allowed_symbols s a))

-- whether the node allows every symbol
abbrev pub allows_all : SymbolSets → ℕ → Bool
allows_all s a = list_all (allows s a) (range_with_len 0 s.symbols)

-- the nodes that don't allow every symbol, among the first n nodes, in order
abbrev pub guarded_nodes : SymbolSets → ℕ → List ℕ
guarded_nodes s n = filter (λ a. not (allows_all s a)) (range_with_len 0 n)

-- the conjunction of the formula and the guards; the formula itself if there are no guards
abbrev pub with_guards : Formula → List Formula → Formula
with_guards f [] = f
with_guards f (g ∷ gs) = v.And (f ∷ g ∷ gs)

-- the guarded formula over n nodes
abbrev pub guarded : SymbolSets → ℕ → Formula → Formula
guarded s n f = with_guards f (map (guard s) (guarded_nodes s n))
