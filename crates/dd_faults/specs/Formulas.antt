-- The faults of formulas. Faults of the same rank are listed in the order of the text. A scope is the list of the variables that enclosing
-- quantifiers bind, the outermost first.
use Rattle.std.specs.Prelude.{ℕ, List, [], ◌∷◌, ◌++◌, length, Bool, not, ◌&&◌, ◌==◌, nat_lt, if◌then◌else◌}
use Rattle.std.specs.List.{flat_map}
use Rattle.dd_values.specs.Bounds.{widest_radius}
use Rattle.dd_known.specs.Limits.{most_moves, most_balls}
use Rattle.dd_faults.specs.Tree.{Word, Name, Term, Comparand, Relation, Atom, Ball, Formula, Formula-F, fold-Formula, Limit, Fault, Context}
use Rattle.dd_written.specs.Values.{written_value}
use Rattle.dd_faults.specs.{Order.when, Order.over, Names.missing, Names.is_variable, Names.unknown_variable}

abbrev pub unknown_label : Context → Word → List Fault
unknown_label x w = missing x.text x.known.setting.topology.labels (Name.Word w)

abbrev pub term_faults : Context → List Word → Term → List Fault
term_faults x scope t = unknown_variable x.text scope t.first ++ (flat_map (unknown_label x) t.moves ++ over (nat_lt most_moves (length t.moves)) Limit.Moves)

-- whether a term to the right of `=` or `!=` is taken as the name of a symbol: it is a single word that isn't a variable
abbrev pub names_symbol : List ℕ → List Word → Term → Bool
names_symbol bytes scope t = length t.moves == 0 && not (is_variable bytes scope t.first)

-- the faults of the right side of `=` or `!=`
abbrev pub side_faults : Context → List Word → Comparand → List Fault
side_faults x scope (Comparand.Number n) = missing x.text x.known.setting.symbols (Name.Number n)
side_faults x scope (Comparand.Term t) = if names_symbol x.text scope t then missing x.text x.known.setting.symbols (Name.Word t.first) else term_faults x scope t

abbrev pub relation_faults : Context → List Word → Relation → List Fault
relation_faults x scope (Relation.Equal r) = side_faults x scope r
relation_faults x scope (Relation.NotEqual r) = side_faults x scope r
relation_faults x scope (Relation.Adjacent t) = term_faults x scope t
relation_faults x scope (Relation.Same t) = term_faults x scope t
relation_faults x scope (Relation.AtNode n) = missing x.text x.known.setting.nodes n

abbrev pub atom_faults : Context → List Word → Atom → List Fault
atom_faults x scope a = term_faults x scope a.term ++ relation_faults x scope a.relation

abbrev pub ball_faults : Context → List Word → Ball → List Fault
ball_faults x scope b = unknown_variable x.text scope b.centre ++ over (nat_lt widest_radius (written_value x.text b.radius)) Limit.Radius

-- the faults of a quantifier without its body: those of its variable, which must be new, and of its balls, in which the variable is not yet in scope
abbrev pub quantifier_faults : Context → List Word → Word → List Ball → List Fault
quantifier_faults x scope w balls =
    when (is_variable x.text scope w) (Fault.Twice (Name.Word w)) ++ (over (nat_lt most_balls (length balls)) Limit.Balls ++ flat_map (ball_faults x scope) balls)

-- the faults of a formula, from those of its parts
abbrev pub faults_step : Context → Formula-F (List Word → List Fault) → List Word → List Fault
faults_step x (Formula-F.Atom a) scope = atom_faults x scope a
faults_step x (Formula-F.Not f) scope = f scope
faults_step x (Formula-F.Quantified q w balls f) scope = quantifier_faults x scope w balls ++ f (scope ++ w ∷ [])
faults_step x (Formula-F.Group f) scope = f scope
faults_step x (Formula-F.Chain j fs) scope = flat_map (λ f. f scope) fs

abbrev pub formula_faults : Context → Formula → List Word → List Fault
formula_faults x = fold-Formula (List Word → List Fault) (faults_step x)
