use Rattle.std.proofs.Common.{◌≡◌, map}
use Rattle.std.specs.List.{All}
use Rattle.dd_minimal.specs.{Patterns.pattern_of, finding.States.IsListedTo}
use Rattle.dd_minimal.proofs.listing.list.Given as goal

abbrev pub invariant-loop-at : goal.invariant-loop-at
invariant-loop-at l = IsListedTo l.rule l.node l.at (map pattern_of l.found.items) l.marks.items × All (λ p. p.node ≡ l.node) l.found.items
