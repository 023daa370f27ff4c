use Rattle.std.proofs.Common.{◌≡◌, true, length, take, []}
use Rattle.dd_derivation.specs.{Derivations.is_proper, checking.MarksOf.FalsesAre, checking.MarksOf.AreUpTo}
use Rattle.dd_derivation.proofs.propagation.start_marks.Given as goal

abbrev pub invariant-loop-literal : goal.invariant-loop-literal
invariant-loop-literal l = record {
  proper : is_proper (length l.marks) (take l.literal-index l.clause) ≡ true;
  marked : FalsesAre l.marks l.step [] (take l.literal-index l.clause);
  older : AreUpTo l.step l.marks;
}
