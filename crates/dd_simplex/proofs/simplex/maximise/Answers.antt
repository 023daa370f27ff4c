use Rattle.std.proofs.Common.{◌≡◌, ℕ, suc, ◌+◌, ◌-◌, ◌<◌, ◌≤◌, None, sym, subst, ◌∙◌, arith}
use Rattle.dd_simplex.specs.{declared.fault.SimplexFault.SimplexFault, declared.solution.Solved.Solved, Programs.LinearProgram}
use Rattle.dd_simplex.specs.{Runs.IsRunRefusal, Runs.stop_of, Runs.Overflows, table.Lines.Table, table.Steps.DoesEnter}
use Rattle.std.specs.Prelude.{Result, Ok, Err, IsErrAnd, IfErr}
use Rattle.dd_simplex.proofs.Running.{IsAlong, along_start, along_iteration, along_stuck, along_limit, others_within, read_ends, read_best}
use Rattle.dd_simplex.specs.declared.fault.SimplexFault.TheVariants as fault
use Rattle.dd_simplex.proofs.simplex.maximise.Goals as goal

one_less : (k i : ℕ) → i < k → k - i ≡ suc (k - (i + 1))
one_less k i p = omega arith

none_left : (k i : ℕ) → k ≤ i → k - i ≡ 0
none_left k i p = omega arith

refused : (p : LinearProgram) (k : ℕ) (r : Result Solved SimplexFault) (f : SimplexFault) → f ≡ fault.Overflow → stop_of p k ≡ Overflows → IsErrAnd r (λ e. e ≡ f)
    → IfErr r (λ e. IsRunRefusal p k e)
refused p k (Ok x) f s o h = tt
refused p k (Err e) f s o h = rw (h ∙ s) o

all_left : (k : ℕ) → k - 0 ≡ k
all_left k = omega arith

pub loop-init : goal.loop-init
loop-init c =
    subst (λ (n : ℕ). IsAlong c.args.program.now c.args.pivots n c.in_ok-tableau.tableau) (sym (all_left c.args.pivots))
    (along_start c.args.program.now c.args.pivots c.in_ok-tableau.tableau c.columns-columns.ensures.program c.in_ok-tableau.ensures)

pub iterate-requires : goal.iterate-requires
iterate-requires c = c.loop.invariant.table

pub returns-in_err-iterate-clause-refusal : goal.returns-in_err-iterate-clause-refusal
returns-in_err-iterate-clause-refusal c =
    let p : LinearProgram = c.args.program.now in
    let k = c.args.pivots in
    let left = one_less k c.loop.counter c.loop-test.true in
    let a = subst (λ (n : ℕ). IsAlong p k n c.loop.tableau) left c.loop.invariant in
    let over : stop_of p k ≡ Overflows = along_stuck p k (k - (c.loop.counter + 1)) c.loop.tableau c.columns-columns.ensures.program a c.in_err-iterate.ensures.stuck.1 in
    let same = c.in_err-iterate.ensures.stuck.0 in
    refused p k c.from_residual-in_err-iterate.result c.in_err-iterate.field-0.0 same over c.from_residual-in_err-iterate.ensures.1

pub read_off-requires-clause-costs : goal.read_off-requires-clause-costs
read_off-requires-clause-costs c =
    let e = (c.in_ok-iterate.ensures).end c.if-not-branch.true in
    let a = subst (IsAlong c.args.program.now c.args.pivots (c.args.pivots - c.loop.counter)) (sym e.1) c.loop.invariant in
    a.table.costs

pub read_off-requires-clause-others : goal.read_off-requires-clause-others
read_off-requires-clause-others c =
    let e = (c.in_ok-iterate.ensures).end c.if-not-branch.true in
    let a = subst (IsAlong c.args.program.now c.args.pivots (c.args.pivots - c.loop.counter)) (sym e.1) c.loop.invariant in
    others_within c.args.program.now c.args.pivots (c.args.pivots - c.loop.counter) c.columns-columns.result c.iterate.new.self a c.columns-columns.ensures.columns

pub returns-then-not-branch-clause-ends : goal.returns-then-not-branch-clause-ends
returns-then-not-branch-clause-ends c =
    let e = (c.in_ok-iterate.ensures).end c.if-not-branch.true in
    let a = subst (IsAlong c.args.program.now c.args.pivots (c.args.pivots - c.loop.counter)) (sym e.1) c.loop.invariant in
    let h : DoesEnter c.iterate.new.self None = subst (λ (t : Table). DoesEnter t None) (sym e.1) e.0 in
    let r = c.in_ok-read_off.ensures in
    read_ends c.args.program.now c.args.pivots (c.args.pivots - c.loop.counter) c.columns-columns.result c.iterate.new.self _ _ _ c.columns-columns.ensures.program a h c.columns-columns.ensures.columns
    r.value r.columns r.duals

pub returns-then-not-branch-clause-best : goal.returns-then-not-branch-clause-best
returns-then-not-branch-clause-best c =
    let e = (c.in_ok-iterate.ensures).end c.if-not-branch.true in
    let a = subst (IsAlong c.args.program.now c.args.pivots (c.args.pivots - c.loop.counter)) (sym e.1) c.loop.invariant in
    let h : DoesEnter c.iterate.new.self None = subst (λ (t : Table). DoesEnter t None) (sym e.1) e.0 in
    let r = c.in_ok-read_off.ensures in
    read_best c.args.program.now c.args.pivots (c.args.pivots - c.loop.counter) c.columns-columns.result c.iterate.new.self _ _ _ c.columns-columns.ensures.program a h c.columns-columns.ensures.columns
    r.value r.columns r.duals

pub loop-preserved : goal.loop-preserved
loop-preserved c =
    let p : LinearProgram = c.args.program.now in
    let k = c.args.pivots in
    let left = one_less k c.loop.counter c.loop-test.true in
    let a = subst (λ (n : ℕ). IsAlong p k n c.loop.tableau) left c.loop.invariant in
    along_iteration p k (k - (c.loop.counter + 1)) c.loop.tableau c.iterate.new.self a ((c.in_ok-iterate.ensures).iterated c.if-not-branch.false)

pub is_at_end-requires : goal.is_at_end-requires
is_at_end-requires c = c.loop.invariant.table

pub returns-then-not-is_at_end-clause-refusal : goal.returns-then-not-is_at_end-clause-refusal
returns-then-not-is_at_end-clause-refusal c =
    let p : LinearProgram = c.args.program.now in
    let k = c.args.pivots in
    let a = subst (λ (n : ℕ). IsAlong p k n c.loop.tableau) (none_left k c.loop.counter c.loop-test.false) c.loop.invariant in
    let e = c.is_at_end.ensures.more c.if-not-is_at_end.true in
    along_limit p k c.loop.tableau e.0 a e.1

pub read_off-requires-2-clause-costs : goal.read_off-requires-2-clause-costs
read_off-requires-2-clause-costs c = c.loop.invariant.table.costs

pub read_off-requires-2-clause-others : goal.read_off-requires-2-clause-others
read_off-requires-2-clause-others c =
    others_within c.args.program.now c.args.pivots (c.args.pivots - c.loop.counter) c.columns-columns.result c.loop.tableau c.loop.invariant c.columns-columns.ensures.columns

pub returns-clause-ends : goal.returns-clause-ends
returns-clause-ends c =
    let r = c.in_ok-read_off-2.ensures in
    read_ends c.args.program.now c.args.pivots (c.args.pivots - c.loop.counter) c.columns-columns.result c.loop.tableau _ _ _ c.columns-columns.ensures.program c.loop.invariant
    (c.is_at_end.ensures.end c.if-not-is_at_end.false) c.columns-columns.ensures.columns r.value r.columns r.duals

pub returns-clause-best : goal.returns-clause-best
returns-clause-best c =
    let r = c.in_ok-read_off-2.ensures in
    read_best c.args.program.now c.args.pivots (c.args.pivots - c.loop.counter) c.columns-columns.result c.loop.tableau _ _ _ c.columns-columns.ensures.program c.loop.invariant
    (c.is_at_end.ensures.end c.if-not-is_at_end.false) c.columns-columns.ensures.columns r.value r.columns r.duals
