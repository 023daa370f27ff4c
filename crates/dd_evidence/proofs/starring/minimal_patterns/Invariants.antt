use Rattle.dd_minimal.specs.Minimal.{IsMinimalList}
use Rattle.dd_evidence.specs.{NodeLists.IsListTo, Lists.starred}
use Rattle.dd_evidence.proofs.starring.minimal_patterns.Given as goal

abbrev pub invariant-loop-node : goal.invariant-loop-node
invariant-loop-node l = IsListTo (IsMinimalList l.rule) starred l.node l.patterns
