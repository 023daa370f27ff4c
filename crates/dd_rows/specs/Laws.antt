-- The law that the listed fillings are the admissible ones among all lists of symbols that the nodes allow.
use Rattle.std.specs.{Prelude.ℕ, Prelude.◌≡◌, Prelude.◌<◌, Prelude.true, Prelude.List, List.All, List.Contains}
use Rattle.dd_lattice.specs.declared.position.Cell.{Cell}
use Rattle.dd_expansion.specs.Placed.{is_flat}
use Rattle.dd_formula.specs.LocalRule.{LocalRule}
use Rattle.dd_boxes.specs.Fillings.{Admissible}
use Rattle.dd_rows.specs.Fillings.{look_of, words, fillings}

-- each cell of the list is a cell of Z^d, with one of the rule's nodes
pub record AreCellsOf (x : LocalRule) (cs : List Cell) : Type 0 where
  pub flat : All (λ c. is_flat x.dimension c.position ≡ true) cs
  pub nodes : All (λ c. c.node < x.nodes) cs

-- each listed filling is admissible, and each admissible one is listed
pub record AreTheAdmissible (x : LocalRule) (cs : List Cell) : Type 0 where
  pub only : (ss : List ℕ) → Contains (fillings x cs) ss → Admissible x (look_of cs ss)
  pub each : (ss : List ℕ) → Contains (words x cs) ss → Admissible x (look_of cs ss) → Contains (fillings x cs) ss
