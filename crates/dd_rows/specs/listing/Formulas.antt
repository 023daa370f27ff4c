-- Formulas over the symbols of a list of cells. Each formula says that the rule is true at a given place. A place is one of the cells. The number of
-- a cell in range is its index in the list, or the length of the list if the cell isn't there.
use Rattle.std.specs.{Prelude.ℕ, Prelude.◌<◌, Prelude.◌≡◌, Prelude.Bool, Prelude.List, Prelude.length, Prelude.All, List.list_all}
use Rattle.dd_lattice.specs.{Place.Place, declared.position.Cell.Cell}
use Rattle.dd_expansion.specs.Leaves.{seen}
use Rattle.dd_numbered.specs.{declared.numbered.Numbered.Numbered, Numbered.holds_in, Numbering.Numbering, Numbering.by_rank}
use Rattle.dd_formula.specs.LocalRule.{LocalRule, is_true}
use Rattle.dd_rows.specs.Fillings.{look_of}

-- the number of a cell that is given relative to v; a cell out of the range of positions has none
abbrev pub ranks_near : List Cell → Place → Numbering
ranks_near cs v = seen (by_rank cs) v

-- whether all formulas are true of the symbols
abbrev pub are_all_true : List Numbered → List ℕ → Bool
are_all_true es ss = list_all (λ e. holds_in e ss) es

-- for any symbols of the cells, the formula is true exactly when the rule is true at the cell c
abbrev pub SaysTrue : LocalRule → List Cell → Cell → Numbered → Type 0
SaysTrue x cs c e = (ss : List ℕ) → length ss ≡ length cs → All (λ s. s < x.symbols) ss → holds_in e ss ≡ is_true x c (look_of cs ss)

-- for any symbols of the cells, all formulas are true exactly when the rule is true at all of the places
abbrev pub SayTrue : LocalRule → List Cell → List Cell → List Numbered → Type 0
SayTrue x cs places es =
    (ss : List ℕ) → length ss ≡ length cs → All (λ s. s < x.symbols) ss → are_all_true es ss ≡ list_all (λ c. is_true x c (look_of cs ss)) places
