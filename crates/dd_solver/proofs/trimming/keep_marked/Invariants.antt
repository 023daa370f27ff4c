use Rattle.std.proofs.Common.{◌≡◌, ◌++◌, ◌+◌, drop, length}
use Rattle.std.specs.Vec.Iter.{into_iter_items}
use Rattle.std.specs.Iterator.Adapters.{enumerate_source, enumerate_count}
use Rattle.dd_solver.specs.searching.Marking.{renamed, kept_steps}
use Rattle.dd_solver.proofs.trimming.keep_marked.Given as goal

abbrev pub invariant-loop-place : goal.invariant-loop-place
invariant-loop-place l =
    let number = enumerate_count l.place-iterator in
    let left = into_iter_items (enumerate_source l.place-iterator) in
    goal.iterator-loop-place.can_next l.place-iterator
    × goal.iterator-loop-place.is_finite l.place-iterator
    × (number + length left ≡ length l.marked)
    × (kept_steps (renamed l.clauses l.numbers) l.marked l.fn.steps ≡ l.kept.items ++ kept_steps (renamed l.clauses l.numbers) (drop number l.marked) left)
