use Rattle.std.proofs.Common.{◌≡◌, List, take, drop}
use Rattle.dd_clause.specs.declared.clause.Literal.{Literal}
use Rattle.dd_derivation.specs.{Derivations.is_conflict, checking.MarksOf.FalsesAre, checking.MarksOf.AreUpTo, checking.MarksOf.literals_of}
use Rattle.dd_derivation.proofs.propagation.follow_hints.Given as goal

abbrev pub invariant-loop-place : goal.invariant-loop-place
invariant-loop-place l = record {
  so_far : (falses : List Literal) × FalsesAre l.marks l.number (literals_of l.known (take l.place l.hints)) falses × (is_conflict l.known l.step.clause l.hints ≡ is_conflict l.known falses (drop l.place l.hints));
  older : AreUpTo l.number l.marks;
}
