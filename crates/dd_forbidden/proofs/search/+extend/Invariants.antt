use Rattle.std.proofs.Common.{◌≡◌, ◌++◌, map, length}
use Rattle.std.specs.{List.flat_map, List.range_with_len, Prelude.cond, Prelude.[], Prelude.◌∷◌}
use Rattle.dd_pattern.specs.Filling.{filled}
use Rattle.dd_formula.specs.LocalRule.{rule_allows, cells_at}
use Rattle.dd_forbidden.specs.listing.Extensions.{extensions}
use Rattle.dd_forbidden.proofs.search.+extend.Given as goal

abbrev pub decreases-extend : goal.decreases-extend
decreases-extend l = length l.rest.now

-- the breaking fillings in the branches of the symbols tried so far are listed
abbrev pub invariant-loop-symbol : goal.invariant-loop-symbol
invariant-loop-symbol l =
    (l.symbols ≡ l.initial.symbols) × (l.found ≡ l.initial.found ++ map (filled (cells_at l.rule l.node))
    (flat_map (λ s. cond (rule_allows l.rule l.cell.node s) (extensions l.rule l.node l.later (l.initial.symbols ++ s ∷ [])) []) (range_with_len 0 l.symbol)))
