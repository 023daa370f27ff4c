use Rattle.std.proofs.Common.{◌≡◌, ◌+◌, ◌≤◌, ◌<◌, ℕ, true, false, length, take, drop, get_or}
use Rattle.dd_derivation.specs.Derivations.{derives, derives_from, clauses_before}
use Rattle.dd_derivation.specs.checking.MarksOf.{known_of, AreBelow}
use Rattle.dd_derivation.proofs.refutation.check_each.Given as goal

abbrev pub invariant-loop-i : goal.invariant-loop-i
invariant-loop-i l = record {
  value : derives (length l.marks) l.clauses l.steps ≡ derives_from (length l.marks) (known_of (clauses_before l.clauses (take l.i l.steps)) l.alive) (drop l.i l.steps);
  later : (k : ℕ) → length l.clauses + l.i ≤ k → k < length l.alive → get_or l.alive k false ≡ true;
  older : AreBelow (l.i + 1) l.marks;
}
