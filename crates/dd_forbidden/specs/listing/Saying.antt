-- The search evaluates a formula over lists of symbols. This formula must be true exactly when the rule is true.
use Rattle.std.specs.Prelude.{ℕ, ◌≡◌, List}
use Rattle.dd_numbered.specs.{declared.numbered.Numbered.Numbered, Numbered.holds_in}
use Rattle.dd_formula.specs.LocalRule.{LocalRule}
use Rattle.dd_forbidden.specs.{Breaking.is_true_at_origin, listing.Extensions.AreSymbols}

-- for each list ss of symbols: the formula is true of ss exactly when the rule is true with ss as the symbols of the cells that it reads, in cell
-- order
abbrev pub SaysRule : LocalRule → ℕ → Numbered → Type 0
SaysRule r a e = (ss : List ℕ) → AreSymbols r ss → holds_in e ss ≡ is_true_at_origin r a ss
