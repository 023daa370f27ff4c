use Rattle.dd_forbidden.specs.Breaking.{BreakingFillings}
use Rattle.dd_evidence.specs.{NodeLists.IsListTo, Lists.listed}
use Rattle.dd_evidence.proofs.listing.forbidden_patterns.Given as goal

abbrev pub invariant-loop-node : goal.invariant-loop-node
invariant-loop-node l = IsListTo (BreakingFillings l.rule) listed l.node l.patterns
