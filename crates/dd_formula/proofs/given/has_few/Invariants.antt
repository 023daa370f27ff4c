use Rattle.std.proofs.Common.{◌≡◌, true}
use Rattle.dd_formula.specs.Automata.{is_few, is_short, counted}
use Rattle.dd_formula.specs.declared.automaton.Automaton.TheVariants as v
use Rattle.dd_formula.proofs.given.has_few.Given as goal

abbrev pub invariant-loop-node : goal.invariant-loop-node
invariant-loop-node l = record {
  few : is_few l.node (counted (v.Given l.cases)) ≡ true;
  short : is_short l.node (counted (v.Given l.cases)) ≡ true;
}
