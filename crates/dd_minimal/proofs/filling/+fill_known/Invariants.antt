use Rattle.std.proofs.Common.{◌≡◌, ◌++◌, ◌∷◌, map, length}
use Rattle.std.specs.List.{flat_map, range_with_len}
use Rattle.dd_minimal.specs.{Minimal.words, finding.Outcomes.known_outcome}
use Rattle.dd_minimal.proofs.filling.+fill_known.Given as goal

abbrev pub decreases-fill_known : goal.decreases-fill_known
decreases-fill_known l = length l.rest.now

-- the table has the entries for the symbols so far
abbrev pub invariant-loop-symbol : goal.invariant-loop-symbol
invariant-loop-symbol l =
    l.table ≡ l.initial.table ++
    flat_map (λ s. map (λ ss. known_outcome l.rule l.rest l.outcome (s ∷ ss)) (words l.rule.symbols (length l.later))) (range_with_len 0 l.symbol)
