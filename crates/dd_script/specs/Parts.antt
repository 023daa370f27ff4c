-- The parts of a script.
use Rattle.std.specs.Prelude.{List}
pub use Rattle.dd_formula.specs.{LocalRule.LocalRule, declared.automaton.Automaton.Automaton}
pub use Rattle.dd_pattern.specs.Tile.{Tile}
pub use Rattle.dd_known.specs.declared.{known.Setting.Setting, known.Known.Known}
pub use Rattle.dd_query.specs.declared.queries.Query.{Query}
use Rattle.dd_script.specs.declared.script.Made.{Made}

-- A script, as contracts see it. `known` holds the script's nodes, symbols and topology, which symbols each node allows, the weights of the symbols,
-- the search limits, and the names of the rules, automata and configurations. It also records whether the script named its nodes, and for which nodes
-- it restricted the symbols. The rules, automata and configurations are in the order of their definitions, and the queries in the order in which they
-- are asked.
pub record Parts : Type 0 where
  pub known : Known
  pub rules : List LocalRule
  pub automata : List Automaton
  pub configurations : List Tile
  pub queries : List Query

-- the parts of a script: k holds its names and settings, and m holds what it defines and asks
abbrev pub parts : Known → Made → Parts
parts k m = record { known = k; rules = m.rules; automata = m.automata; configurations = m.configurations; queries = m.queries }
