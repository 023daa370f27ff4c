use Rattle.std.proofs.Common.{◌≡◌, ℕ, suc, ◌+◌, ◌<◌, ◌≤◌, ◌||◌, false, take, get_or}
use Rattle.dd_solver.specs.Trimming.{is_hint}
use Rattle.dd_solver.proofs.trimming.mark_hints.Given as goal

abbrev pub invariant-loop-hint : goal.invariant-loop-hint
invariant-loop-hint l = record {
  earlier : (j : ℕ) → j < l.before → get_or l.marked j false ≡ (get_or l.initial.marked j false || is_hint (l.clauses + suc j) (take l.hint-index l.hints));
  later : (j : ℕ) → l.before ≤ j → get_or l.marked j false ≡ get_or l.initial.marked j false;
}
