-- What the marks of a check mean. A list `alive` holds a truth value for each clause, which says whether the clause is alive. A variable's mark holds
-- the number of the step that made it, and the sign of the variable's false literal.
use Rattle.std.specs.Prelude.{◌≡◌, ℕ, ◌-◌, ◌≤◌, ◌<◌, ◌==◌, Bool, false, ◌&&◌, if◌then◌else◌, List, [], ◌∷◌, ◌++◌, Option, Some, None, unwrap_or, slice_index_or, slice_set, length, All}
use Rattle.std.specs.{Bool.beq, Option.option_map_or}
use Rattle.dd_clause.specs.{declared.clause.Literal.Literal, Clauses.negation}
use Rattle.dd_derivation.specs.declared.{propagation.VariableMark.VariableMark, step.Step.Step}
use Rattle.dd_derivation.specs.Derivations.{same_literal, is_among, is_literal_in_range, clause_of, clauses_before}

-- the clauses by number, with an empty place for each that is not alive; clauses past the end of `alive` are left out
abbrev pub known_of : List (List Literal) → List Bool → List (Option (List Literal))
known_of [] alive = []
known_of (c ∷ cs) [] = []
known_of (c ∷ cs) (a ∷ alive) = (if a then Some c else None) ∷ known_of cs alive

-- the clauses of the list and of the steps, with an empty place for each that is not alive
abbrev pub known_to : List (List Literal) → List Step → List Bool → List (Option (List Literal))
known_to clauses steps alive = known_of (clauses_before clauses steps) alive

-- the mark says that its variable's literal with this sign is false in this step
abbrev pub mark_says : ℕ → Bool → VariableMark → Bool
mark_says step positive m = (m.step == step) && beq m.positive positive

-- the mark of the literal's variable says that the literal is false in this step
abbrev pub is_marked : List VariableMark → ℕ → Literal → Bool
is_marked marks step l =
    mark_says step l.positive (slice_index_or marks (l.variable - 1) (record { step = 0; positive = false }))

-- the marks after this literal is marked as false; they stay the same if its variable is out of range and so has no mark
abbrev pub with_mark : List VariableMark → ℕ → Literal → List VariableMark
with_mark marks step l =
    if is_literal_in_range (length marks) l
    then slice_set marks (l.variable - 1) (record { step = step; positive = l.positive })
    else marks

-- the first of the literals that has the variable v
abbrev pub first_literal_of : ℕ → List Literal → Option Literal
first_literal_of v [] = None
first_literal_of v (l ∷ rest) = if l.variable == v then Some l else first_literal_of v rest

-- the literals of the clauses with these numbers
abbrev pub literals_of : List (Option (List Literal)) → List ℕ → List Literal
literals_of known [] = []
literals_of known (h ∷ hints) = unwrap_or (clause_of known h) [] ++ literals_of known hints

-- Whether a literal of a variable out of range is false. Such a variable has no mark, and it has no value until a hinted clause contains it. Each
-- clause hinted so far has forced a literal. So the first of them that contains the variable has forced its literal of this variable. `seen` holds
-- the literals of the clauses hinted so far.
abbrev pub is_false_unmarked : List Literal → Literal → Bool
is_false_unmarked seen l = option_map_or (λ m. same_literal l (negation m)) (first_literal_of l.variable seen) false

-- the literal is false by the mark of its variable or, if the variable is out of range, by the literals of the clauses hinted
-- so far
abbrev pub is_false : List VariableMark → ℕ → List Literal → Literal → Bool
is_false marks step seen l =
    if is_literal_in_range (length marks) l then is_marked marks step l else is_false_unmarked seen l

-- the literals that are false by the marks and the hinted clauses are exactly those of the list
abbrev pub FalsesAre : List VariableMark → ℕ → List Literal → List Literal → Type 0
FalsesAre marks step seen falses = (l : Literal) → is_false marks step seen l ≡ is_among falses l

-- no mark was made by a later step
abbrev pub AreUpTo : ℕ → List VariableMark → Type 0
AreUpTo step marks = All (λ m. m.step ≤ step) marks

-- no mark was made by this step or a later one
abbrev pub AreBelow : ℕ → List VariableMark → Type 0
AreBelow step marks = All (λ m. m.step < step) marks
