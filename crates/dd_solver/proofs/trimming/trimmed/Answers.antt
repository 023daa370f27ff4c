use Rattle.std.proofs.Common.{length, ◌∙◌, subst, sym}
use Rattle.std.specs.List.{All}
use Rattle.dd_solver.specs.searching.Marking.{IsMarking, renamed}
use Rattle.dd_solver.proofs.{Kept.no_more, Kept.no_deletes, Kept.DeletesNothing, Planned.marked_refute, Planned.marked_used}
use Rattle.dd_solver.proofs.trimming.trimmed.Goals as goal

pub returns-clause-refutes : goal.returns-clause-refutes
returns-clause-refutes c =
    let cnf = c.args.cnf.now in
    let marked = c.in_ok-marked.marked.items in
    let steps = c.args.steps in
    let m : IsMarking (length cnf.clauses) 0 steps marked = rw (← c.clauses-clauses.ensures.value, ← c.as_slice.ensures) c.in_ok-marked.ensures in
    rw (c.from_vec.ensures, c.in_ok-kept.ensures, c.as_slice-3.ensures.value, c.as_slice-4.ensures.value, c.in_ok-numbers.ensures, c.as_slice-2.ensures.value, c.clauses-clauses.ensures.value) (marked_refute cnf.variables cnf.clauses steps marked m c.requires)

pub returns-clause-used : goal.returns-clause-used
returns-clause-used c =
    let cnf = c.args.cnf.now in
    let marked = c.in_ok-marked.marked.items in
    let steps = c.args.steps in
    let m : IsMarking (length cnf.clauses) 0 steps marked = rw (← c.clauses-clauses.ensures.value, ← c.as_slice.ensures) c.in_ok-marked.ensures in
    rw (c.from_vec.ensures, c.in_ok-kept.ensures, c.as_slice-3.ensures.value, c.as_slice-4.ensures.value, c.in_ok-numbers.ensures, c.as_slice-2.ensures.value, c.clauses-clauses.ensures.value) (marked_used (length cnf.clauses) steps marked m)

pub returns-clause-no_more : goal.returns-clause-no_more
returns-clause-no_more c = rw (c.from_vec.ensures, c.in_ok-kept.ensures) (no_more _ _ c.args.steps)

pub returns-clause-no_deletes : goal.returns-clause-no_deletes
returns-clause-no_deletes c =
    let clauses = length c.clauses-clauses.result.now in
    let e = c.from_vec.ensures ∙ c.in_ok-kept.ensures in
    subst (All DeletesNothing) (sym e) (no_deletes (renamed clauses c.as_slice-3.result.now) c.as_slice-4.result.now c.args.steps)
