use Rattle.std.proofs.Common.{◌≡◌, ℕ, ◌+◌, ◌-◌, ◌<◌, List, [], ◌∷◌, ◌++◌, length, true, false, None, sym, subst, get_or, arith}
use Rattle.dd_trail.specs.declared.trail.Entry.{Entry}
use Rattle.dd_trail.specs.Reasons.{IsTrail}
use Rattle.dd_solver.specs.searching.Analysis.{marks}
use Rattle.dd_solver.proofs.Walk.{Walk, walk_start, walk_past, walk_kept, walk_resolved, walk_backjump}
use Rattle.dd_solver.proofs.analysis.walk_down.Goals as goal

none : Entry
none = record { literal = record { variable = 0; positive = false }; reason = None }

pub loop-i-init : goal.loop-i-init
loop-i-init c = rw (c.entries-entries.ensures, c.in_ok-push.ensures.items, c.in_ok-hints.ensures.items, c.in_ok-literals.ensures.items) (walk_start (length c.mark_clause-open.new.marked) c.args.database.now c.args.trail.now.entries c.mark_clause-open.new.marked c.args.conflict c.requires.conflict c.mark_clause-open.ensures.marks)

pub loop-i-preserved : goal.loop-i-preserved
unfolding none
loop-i-preserved c =
    let known = c.args.database.now in
    let trail = c.args.trail.now.entries in
    let same = c.entries-entries.ensures in
    let n = length c.loop-i.marked in
    let j = c.loop-i.i - 1 in
    let next : c.loop-i.i ≡ j + 1 = omega arith in
    let l : j < length trail = subst (λ (xs : List Entry). j < length xs) same (omega arith) in
    let s : n ≡ length c.args.marked.now = omega arith in
    let ok : IsTrail n known trail = subst (λ (k : ℕ). IsTrail k known trail) (sym s) c.requires.trail in
    let m : marks c.loop-i.marked (get_or trail j none).literal ≡ false = subst (λ (xs : List Entry). marks c.loop-i.marked (get_or xs j none).literal ≡ false) same c.if-marked-literal.false in
    walk_past n known trail ok j none c.loop-i.marked c.loop-i.literals.items c.loop-i.hints.items c.loop-i.backjump l m (rw next at c.loop-i.invariant)

pub loop-i-preserved-in-Keep : goal.loop-i-preserved-in-Keep
unfolding none
loop-i-preserved-in-Keep c =
    let known = c.args.database.now in
    let trail = c.args.trail.now.entries in
    let same = c.entries-entries.ensures in
    let n = length c.loop-i.marked in
    let j = c.loop-i.i - 1 in
    let next : c.loop-i.i ≡ j + 1 = omega arith in
    let l : j < length trail = subst (λ (xs : List Entry). j < length xs) same (omega arith) in
    let s : n ≡ length c.args.marked.now = omega arith in
    let ok : IsTrail n known trail = subst (λ (k : ℕ). IsTrail k known trail) (sym s) c.requires.trail in
    let m : marks c.loop-i.marked (get_or trail j none).literal ≡ true = subst (λ (xs : List Entry). marks c.loop-i.marked (get_or xs j none).literal ≡ true) same c.if-marked-literal.true in
    let w = walk_kept n known trail ok j none c.loop-i.marked c.loop-i.literals.items c.loop-i.hints.items c.loop-i.backjump c.in-Keep.next l m c.in-Keep.ensures (rw next at c.loop-i.invariant) in
    rw (c.in_ok-push-in-Keep.ensures.items, c.negation.ensures, same) w

pub loop-i-preserved-in-Resolve : goal.loop-i-preserved-in-Resolve
unfolding none
loop-i-preserved-in-Resolve c =
    let known = c.args.database.now in
    let trail = c.args.trail.now.entries in
    let same = c.entries-entries.ensures in
    let n = length c.loop-i.marked in
    let j = c.loop-i.i - 1 in
    let next : c.loop-i.i ≡ j + 1 = omega arith in
    let l : j < length trail = subst (λ (xs : List Entry). j < length xs) same (omega arith) in
    let s : n ≡ length c.args.marked.now = omega arith in
    let ok : IsTrail n known trail = subst (λ (k : ℕ). IsTrail k known trail) (sym s) c.requires.trail in
    let m : marks c.loop-i.marked (get_or trail j none).literal ≡ true = subst (λ (xs : List Entry). marks c.loop-i.marked (get_or xs j none).literal ≡ true) same c.if-marked-literal.true in
    let more = c.mark_clause-more in
    let w = walk_resolved n known trail ok j none c.loop-i.marked more.new.marked c.loop-i.literals.items c.loop-i.hints.items c.loop-i.backjump c.in-Resolve.reason l m (c.in-Resolve.ensures none) more.ensures.grows more.ensures.marks (rw next at c.loop-i.invariant) in
    let s' : n ≡ length more.new.marked = omega arith in
    rw c.in_ok-push-in-Resolve.ensures.items (subst (λ (k : ℕ). Walk k known trail j more.new.marked c.loop-i.literals.items (c.loop-i.hints.items ++ c.in-Resolve.reason ∷ []) c.loop-i.backjump) s' w)

pub returns-clause-backjump : goal.returns-clause-backjump
returns-clause-backjump c =
    let known = c.args.database.now in
    let trail = c.args.trail.now.entries in
    let n = length c.loop-i.marked in
    let s : n ≡ length c.args.marked.now = omega arith in
    let ok : IsTrail n known trail = subst (λ (k : ℕ). IsTrail k known trail) (sym s) c.requires.trail in
    let z : c.loop-i.i ≡ 0 = omega arith in
    walk_backjump n known trail ok c.loop-i.marked c.loop-i.literals.items c.loop-i.hints.items c.loop-i.backjump (rw z at c.loop-i.invariant)
