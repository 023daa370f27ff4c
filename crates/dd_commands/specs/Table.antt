-- The table of queries.
use Rattle.std.specs.Prelude.{ℕ, List, [], ◌∷◌, codes}
use Rattle.dd_commands.specs.Tree.{Role, Lists, QueryKind}

-- What the table says about a kind of query.
pub record QueryRow : Type 0 where
  -- the first word
  pub word : List ℕ
  -- what each of the words after the first word names
  pub names : List Role
  -- how many numbers follow these words
  pub numbers : ℕ
  -- which vectors follow the numbers
  pub lists : Lists
  -- the least number of symbols that the alphabet must have
  pub symbols : ℕ

abbrev pub entry : List ℕ → List Role → ℕ → Lists → ℕ → QueryRow
entry word names numbers ls symbols = record { word = word; names = names; numbers = numbers; lists = ls; symbols = symbols }

abbrev pub row : QueryKind → QueryRow
row QueryKind.Member = entry (codes "member") (Role.Configuration ∷ Role.Rule ∷ []) 0 Lists.None 1
row QueryKind.Contains = entry (codes "contains") (Role.Rule ∷ Role.Rule ∷ []) 0 Lists.None 1
row QueryKind.Equal = entry (codes "equal") (Role.Rule ∷ Role.Rule ∷ []) 0 Lists.None 1
row QueryKind.Empty = entry (codes "empty") (Role.Rule ∷ []) 0 Lists.None 1
row QueryKind.Agree = entry (codes "same") (Role.Automaton ∷ Role.Automaton ∷ Role.Rule ∷ []) 0 Lists.None 1
row QueryKind.Maps = entry (codes "maps") (Role.Automaton ∷ Role.Rule ∷ Role.Rule ∷ []) 0 Lists.None 2
row QueryKind.Conjugate = entry (codes "conjugate") (Role.Automaton ∷ Role.Automaton ∷ Role.Rule ∷ Role.Rule ∷ []) 0 Lists.None 2
row QueryKind.Forbidden = entry (codes "forbidden") (Role.Rule ∷ []) 0 Lists.None 1
row QueryKind.Minimal = entry (codes "minimal") (Role.Rule ∷ []) 0 Lists.None 1
row QueryKind.Density = entry (codes "density") (Role.Rule ∷ []) 0 Lists.Strip 1
row QueryKind.Least = entry (codes "least") (Role.Rule ∷ []) 0 Lists.Torus 1
row QueryKind.Discharge = entry (codes "discharge") (Role.Rule ∷ []) 2 Lists.Vectors 1

-- all kinds of queries
abbrev pub query_kinds : List QueryKind
query_kinds =
    QueryKind.Member ∷ QueryKind.Contains ∷ QueryKind.Equal ∷ QueryKind.Empty ∷ QueryKind.Agree ∷ QueryKind.Maps ∷ QueryKind.Conjugate ∷ QueryKind.Forbidden ∷ QueryKind.Minimal
    ∷ QueryKind.Density ∷ QueryKind.Least ∷ QueryKind.Discharge ∷ []

-- the first word of a kind
abbrev pub kind_word : QueryKind → List ℕ
kind_word k = (row k).word
