use Rattle.std.proofs.Common.{◌≡◌, ℕ, ◌+◌, ◌*◌, ◌<◌, length, get_or, false}
use Rattle.dd_trail.proofs.trail.Trail.assignment.Given as goal

abbrev pub invariant-loop-i : goal.invariant-loop-i
invariant-loop-i l = record {
  as_many : length l.values.items ≡ l.i;
  values : (k : ℕ) → k < l.i → get_or l.values.items k false ≡ get_or l.self-inside.denied.items (2 * k + 2) false;
}
