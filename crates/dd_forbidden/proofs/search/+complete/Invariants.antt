use Rattle.std.proofs.Common.{◌≡◌, ◌++◌, map, length}
use Rattle.std.specs.{List.flat_map, List.range_with_len, Prelude.cond, Prelude.[], Prelude.◌∷◌}
use Rattle.dd_pattern.specs.Filling.{filled}
use Rattle.dd_formula.specs.LocalRule.{rule_allows}
use Rattle.dd_forbidden.specs.listing.Extensions.{completions}
use Rattle.dd_forbidden.proofs.search.+complete.Given as goal

abbrev pub decreases-complete : goal.decreases-complete
decreases-complete l = length l.rest.now

-- the fillings in the branches of the symbols tried so far are listed
abbrev pub invariant-loop-symbol : goal.invariant-loop-symbol
invariant-loop-symbol l =
    (l.symbols ≡ l.initial.symbols) × (l.found ≡ l.initial.found ++ map (filled l.cells)
    (flat_map (λ s. cond (rule_allows l.rule l.next.node s) (completions l.rule l.later (l.initial.symbols ++ s ∷ [])) []) (range_with_len 0 l.symbol)))
