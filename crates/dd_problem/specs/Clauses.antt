-- Clauses that say that each cell has one symbol, which its node allows, and clauses over the signals of gates. The comment on a list of clauses
-- states what the clauses say.
use Rattle.std.specs.Prelude.{ℕ, suc, ◌+◌, ◌*◌, true, false, List, [], ◌∷◌, ◌++◌, map, length}
use Rattle.std.specs.List.{flat_map, enumerate_from, range_with_len}
use Rattle.dd_lattice.specs.declared.position.Cell.{Cell}
use Rattle.dd_clause.specs.declared.clause.Literal.{Literal}
use Rattle.dd_circuit.specs.declared.gates.{Signal.Signal, Gate.Gate}
use Rattle.dd_cnf.specs.Encoding.{literal, literal_of, opposing, gates_clauses}
use Rattle.dd_compile.specs.Compiling.{AllMade, Maker, all_made}
use Rattle.dd_formula.specs.{LocalRule.LocalRule, Counts.disallowed}

-- the variable that says that the cell with the number k has the symbol s, of m symbols
abbrev pub input : ℕ → ℕ → ℕ → ℕ
input m k s = suc (k * m + s)

-- the inputs of the cell with the number k, by symbol
abbrev pub inputs_of : ℕ → ℕ → List ℕ
inputs_of m k = map (input m k) (range_with_len 0 m)

-- no two of the variables are true
abbrev pub pairs : List ℕ → List (List Literal)
pairs [] = []
pairs (v ∷ vs) = map (λ w. literal v false ∷ literal w false ∷ []) vs ++ pairs vs

-- one of the variables is true, and no two are
abbrev pub one_hot : List ℕ → List (List Literal)
one_hot vs = map (λ v. literal v true) vs ∷ pairs vs

-- the cell with the number k has none of these symbols; there are m symbols in all
abbrev pub none_of : ℕ → ℕ → List ℕ → List (List Literal)
none_of m k symbols = map (λ s. literal (input m k s) false ∷ []) symbols

-- the cell with the number k, at this node, has one symbol, and none that its node doesn't allow
abbrev pub symbol_clauses : LocalRule → ℕ → ℕ → List (List Literal)
symbol_clauses x k node = one_hot (inputs_of x.symbols k) ++ none_of x.symbols k (disallowed x node)

-- the same for each of these cells, which are numbered from `first` in their order
abbrev pub clauses_from : LocalRule → ℕ → List Cell → List (List Literal)
clauses_from x first cells = flat_map (λ numbered. symbol_clauses x numbered.0 numbered.1.node) (enumerate_from first cells)

-- the same, numbered from 0
abbrev pub cell_clauses : LocalRule → List Cell → List (List Literal)
cell_clauses x cells = clauses_from x 0 cells

-- A problem is the clause list of a question. After the clauses of its cells come those of its parts. A part has makers. A
-- maker is a function: from the number of variables so far, it gives a signal and the gates that are added for it. The clauses
-- of a part are those of its gates, and then those that `tail` gives for its makers' signals.
pub record Part : Type 0 where
  pub makers : List Maker
  pub tail : List Signal → List (List Literal)

-- the signals and the gates of a part's makers, made after n variables
abbrev pub made_by : Part → ℕ → AllMade
made_by p n = all_made p.makers n

-- the gates of all parts, made after n variables, one part after the other
abbrev pub part_gates : ℕ → List Part → List Gate
part_gates n [] = []
part_gates n (p ∷ ps) = (made_by p n).gates ++ part_gates (n + length (made_by p n).gates) ps

-- for each part, the clauses of its gates, and then its clauses over its makers' signals
abbrev pub part_clauses : ℕ → List Part → List (List Literal)
part_clauses n [] = []
part_clauses n (p ∷ ps) =
    gates_clauses n (made_by p n).gates ++ (p.tail (made_by p n).signals ++ part_clauses (n + length (made_by p n).gates) ps)

-- each signal is true
abbrev pub units : List Signal → List (List Literal)
units ss = map (λ s. literal_of s ∷ []) ss

-- some signal is false
abbrev pub some_false : List Signal → List (List Literal)
some_false ss = map opposing ss ∷ []

-- some signal is true
abbrev pub some_true : List Signal → List (List Literal)
some_true ss = map literal_of ss ∷ []
