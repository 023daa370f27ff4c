use Rattle.std.proofs.Common.{◌≡◌, ℕ, ◌≤◌, true, false, get_or}
use Rattle.dd_derivation.specs.Derivations.{clause_of, are_deletable, known_after}
use Rattle.dd_solver.proofs.deletion.take_chosen.Given as goal

abbrev pub invariant-loop-number : goal.invariant-loop-number
invariant-loop-number l = record {
  deletable : are_deletable l.database l.deletes.items ≡ true;
  first : (h : ℕ) → h ≤ l.clauses → clause_of (known_after l.database l.deletes.items) h ≡ clause_of l.database h;
  later : (h : ℕ) → l.number ≤ h → clause_of (known_after l.database l.deletes.items) h ≡ clause_of l.database h;
  spared : (h : ℕ) → get_or l.chosen h false ≡ false → clause_of (known_after l.database l.deletes.items) h ≡ clause_of l.database h;
}
