-- What a YES says about any configuration, periodic or not. A YES answers a box question, or the two box questions of an equality. A box question has
-- a rule, which is called its premise, and a goal: a property of a position, such as that another rule is broken there.
use Rattle.std.specs.Prelude.{ℕ, ◌≡◌, ◌<◌, Bool, true, cond, nat_eq, codes, Some, None, IsSomeAnd}
use Rattle.std.specs.List.{starts_with}
use Rattle.dd_lattice.specs.{Place.Place, declared.position.Cell.Cell}
use Rattle.dd_topology.specs.Sets.{allows}
use Rattle.dd_pattern.specs.Reading.{Look}
use Rattle.dd_expansion.specs.Placed.{is_flat, is_cell_in}
use Rattle.dd_formula.specs.{LocalRule.LocalRule, Living.Obeys}
use Rattle.dd_boxes.specs.Goals.{GoalOf, breaks, HasGoal}
use Rattle.dd_certificate.specs.{declared.answer.Answer.Answer, Text.verdict_text}
use Rattle.dd_script.specs.{Parts.Parts, Questions.asked, Questions.query_at}
use Rattle.dd_question.specs.Questions.{Asked}
use Rattle.dd_question.specs.Questions as question

-- the answer's first line has YES after the query's number
abbrev pub is_yes : Answer → Bool
is_yes a = starts_with nat_eq (verdict_text a) (codes "YES ")

-- the look-up that gives each cell its symbol, if the cell is at a position of Z^d and its node is below `nodes`; other cells have no symbol
abbrev pub whole_look : ℕ → ℕ → (Cell → ℕ) → Look
whole_look d nodes symbol_of c = cond (is_cell_in d nodes c) (Some (symbol_of c)) None

-- the configuration has the script's number of nodes, and each cell of Z^d has a symbol that its node allows
pub record IsWhole (s : Parts) (nodes : ℕ) (symbol_of : Cell → ℕ) : Type 0 where
  pub same_nodes : nodes ≡ s.known.setting.topology.nodes
  pub allowed : (c : Cell) → is_flat s.known.setting.topology.dimension c.position ≡ true → c.node < nodes →
      allows s.known.setting.sets c.node (symbol_of c) ≡ true

-- if the configuration obeys the premise x everywhere, the goal g does not hold at v
abbrev pub IsNotAt : LocalRule → GoalOf → Look → Place → Type 0
IsNotAt x g look v = Obeys x look → HasGoal g look v → ⊥

-- For a box question, `IsNotAt` holds for its premise and its goal. For an equality, it holds for both of its box questions. No other question has
-- the answer YES.
pub data IsAskedNotAt : Asked → Look → Place → Type 0 where
  of_box : {x : LocalRule} {g : GoalOf} {look : Look} {v : Place} → IsNotAt x g look v → IsAskedNotAt (question.box x g) look v
  of_equality : {x y : LocalRule} {look : Look} {v : Place} → IsNotAt x (breaks y) look v → IsNotAt y (breaks x) look v → IsAskedNotAt (question.equality x y) look v

-- `IsAskedNotAt` holds for the question of the query with this number, counted from 1 (0 counts as 1)
abbrev pub IsQueryNotAt : Parts → ℕ → Look → Place → Type 0
IsQueryNotAt s number look v = IsSomeAnd (query_at s number) (λ q. IsSomeAnd (asked s q) (λ k. IsAskedNotAt k look v))
