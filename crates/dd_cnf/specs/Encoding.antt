-- The clauses of gates and of circuits (Tseitin 1968). The clauses of a gate say that its variable has the gate's value.
use Rattle.std.specs.Prelude.{ℕ, suc, Bool, true, false, not, if◌then◌else◌, List, [], ◌∷◌, ◌++◌, map}
use Rattle.dd_clause.specs.{declared.clause.Literal.Literal, Clauses.negation, Clauses.ClauseList}
use Rattle.dd_circuit.specs.declared.gates.{Signal.Signal, Gate.Gate}
use Rattle.dd_circuit.specs.declared.gates.Gate.TheVariants.{And, Or, Iff}
use Rattle.dd_circuit.specs.Circuits.{Network, size}

-- the literal of the variable: the positive one if the truth value is true, otherwise the negative one
abbrev pub literal : ℕ → Bool → Literal
literal variable positive = record { variable = variable; positive = positive }

-- the literal that is true exactly when the signal is
abbrev pub literal_of : Signal → Literal
literal_of s = literal s.variable s.positive

-- the literal that is true exactly when the signal is false
abbrev pub opposing : Signal → Literal
opposing s = negation (literal_of s)

-- the clauses that say that g is true exactly when a and b have the same value
abbrev pub iff_clauses : Literal → Literal → Literal → List (List Literal)
iff_clauses g a b =
    (negation g ∷ negation a ∷ b ∷ [])
    ∷ (negation g ∷ a ∷ negation b ∷ [])
    ∷ (g ∷ a ∷ b ∷ [])
    ∷ (g ∷ negation a ∷ negation b ∷ []) ∷ []

-- the clauses of the gate with the variable g, in order
abbrev pub gate_clauses : ℕ → Gate → List (List Literal)
gate_clauses g (And members) =
    map (λ l. literal g false ∷ literal_of l ∷ []) members ++ (literal g true ∷ map opposing members) ∷ []
gate_clauses g (Or members) =
    map (λ l. literal g true ∷ opposing l ∷ []) members ++ (literal g false ∷ map literal_of members) ∷ []
gate_clauses g (Iff a b) = iff_clauses (literal g true) (literal_of a) (literal_of b)

-- the clauses of gates whose variables are n + 1, n + 2, .., gate by gate
abbrev pub gates_clauses : ℕ → List Gate → List (List Literal)
gates_clauses n [] = []
gates_clauses n (g ∷ gs) = gate_clauses (suc n) g ++ gates_clauses (suc n) gs

-- the clauses of a circuit
abbrev pub encoded : Network → ClauseList
encoded circuit = record { variables = size circuit; clauses = gates_clauses circuit.inputs circuit.gates }

-- the signal's literal if `sign` is true, and its negation if not
abbrev pub signed : Bool → Signal → Literal
signed sign s = literal s.variable (if sign then s.positive else not s.positive)

-- The clauses of an And gate if the literal `gate` is positive, and those of an Or gate if it is negative. They differ only in the signs of the
-- literals.
abbrev pub and_or_clauses : Literal → List Signal → List (List Literal)
and_or_clauses gate members =
    map (λ l. negation gate ∷ signed gate.positive l ∷ []) members ++ (gate ∷ map (signed (not gate.positive)) members) ∷ []
