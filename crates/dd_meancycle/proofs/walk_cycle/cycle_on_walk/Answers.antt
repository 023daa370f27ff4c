use Rattle.std.proofs.Common.{◌≡◌, ℕ, suc, ◌+◌, ◌-◌, ◌*◌, ◌<◌, ◌≤◌, List, [], ◌∷◌, ◌++◌, length, reverse, drop, Option, Some, None, arith, refl, sym, ◌∙◌, ap, subst, add-one, get_or, set}
use Rattle.std.proofs.lemmas.List.{length-append, length-set, get_or_default, Elements.All-contains}
use Rattle.std.specs.List.{All, find}
use Rattle.dd_meancycle.specs.declared.edges.Edge.{Edge}
use Rattle.dd_meancycle.specs.table.Levels.{at, row, least, AreRows, IsEdgeOf}
use Rattle.dd_meancycle.specs.table.Rises.{is_back, IsCycleOnWalk}
use Rattle.dd_meancycle.proofs.LevelLaws.{row_length}
use Rattle.dd_meancycle.proofs.WalkCycles.{Trail, IsBack, trail_start, trail_end, trail_push, trail_closes, marks_at, back_found, back_some}
use Rattle.dd_meancycle.proofs.Assembly.{weight_row}
use Rattle.dd_values.specs.lemmas.Results.{if_ok}
use Rattle.dd_meancycle.proofs.walk_cycle.cycle_on_walk.Goals as goal

pub weight_at-requires-clause-state : goal.weight_at-requires-clause-state
weight_at-requires-clause-state c =
    let lt : c.args.last < length c.args.levels.now = omega (arith, c.requires.len) in
    rw (c.requires.rows c.args.last lt, row_length c.args.edges.now c.args.last c.args.last) c.requires.state

pub loop-step-init : goal.loop-step-init
loop-step-init c =
    let lt : c.args.last < length c.args.levels.now = omega (arith, c.requires.len) in
    rw c.new-path.ensures.items (trail_start c.args.edges.now c.args.last c.args.state c.in-Some.end c.in_ok-seen.seen.items c.requires.state c.in_ok-seen.ensures
    (sym (weight_row c.args.edges.now c.args.last c.args.levels.now c.args.last c.args.state c.requires.rows lt) ∙ sym c.in-Some.ensures))

before_is : (edges : List Edge) (n step : ℕ) (levels : List (List (Option ℕ))) (before : List (Option ℕ)) → AreRows edges n levels → length levels ≡ n + 1 → step < n → before ≡ get_or levels (n - 1 - step) [] → before ≡ row edges n (n - 1 - step)
before_is edges n step levels before rows len lt e = e ∙ rows (n - 1 - step) (omega arith)

back_of : (edges : List Edge) (n step : ℕ) (levels : List (List (Option ℕ))) (before : List (Option ℕ)) (here weight : ℕ) (e : Edge) → AreRows edges n levels → length levels ≡ n + 1 → step < n → before ≡ get_or levels (n - 1 - step) [] →
    Some e ≡ find (is_back before here weight) edges → IsBack edges (row edges n (n - 1 - step)) here weight e
back_of edges n step levels before here weight e rows len lt is found =
    back_found edges (row edges n (n - 1 - step)) here weight e (subst (λ (x : List (Option ℕ)). Some e ≡ find (is_back x here weight) edges) (before_is edges n step levels before rows len lt is) found)

read_mark : (marks : List (Option ℕ)) (i : ℕ) (x o : Option ℕ) → i < length marks → x ≡ get_or marks i x → x ≡ o → at marks i ≡ o
read_mark marks i x o lt e f = sym (get_or_default marks i x None lt) ∙ (sym e ∙ f)

pub back_edge-requires : goal.back_edge-requires
back_edge-requires c =
    let b = before_is c.args.edges.now c.args.last c.loop-step.step c.args.levels.now c.row_of-before.result.now c.requires.rows c.requires.len c.loop-step-test.true c.row_of-before.ensures in
    let l : length c.row_of-before.result.now ≡ c.args.last = ap length b ∙ row_length c.args.edges.now c.args.last (c.args.last - 1 - c.loop-step.step) in
    record { edges = subst (λ (n : ℕ). All (IsEdgeOf n) c.args.edges.now) (sym l) c.requires.edges }

pub returns-in_default-back_edge : goal.returns-in_default-back_edge
returns-in_default-back_edge c = λ end h.
    let b = before_is c.args.edges.now c.args.last c.loop-step.step c.args.levels.now c.row_of-before.result.now c.requires.rows c.requires.len c.loop-step-test.true c.row_of-before.ensures in
    let k : c.args.last - c.loop-step.step ≡ suc (c.args.last - 1 - c.loop-step.step) = omega arith in
    absurd (back_some c.args.edges.now c.args.last (c.args.last - 1 - c.loop-step.step) c.loop-step.at c.loop-step.weight c.requires.edges
    (subst (λ (x : ℕ). least c.args.edges.now c.args.last x c.loop-step.at ≡ Some c.loop-step.weight) k c.loop-step.invariant.here_is)
    (subst (λ (x : List (Option ℕ)). None ≡ find (is_back x c.loop-step.at c.loop-step.weight) c.args.edges.now) b (sym c.in_default-back_edge.is ∙ c.back_edge.ensures)))

pub overflow_sub-weight : goal.overflow_sub-weight
overflow_sub-weight c =
    let b = back_of c.args.edges.now c.args.last c.loop-step.step c.args.levels.now c.row_of-before.result.now c.loop-step.at c.loop-step.weight c.in-Some-back_edge.edge c.requires.rows c.requires.len c.loop-step-test.true c.row_of-before.ensures c.in-Some-back_edge.ensures in
    omega (arith, b.sum)

pub index-requires : goal.index-requires
index-requires c =
    let b = back_of c.args.edges.now c.args.last c.loop-step.step c.args.levels.now c.row_of-before.result.now c.loop-step.at c.loop-step.weight c.in-Some-back_edge.edge c.requires.rows c.requires.len c.loop-step-test.true c.row_of-before.ensures c.in-Some-back_edge.ensures in
    let e = All-contains (IsEdgeOf c.args.last) c.args.edges.now c.in-Some-back_edge.edge c.requires.edges b.is_in in
    omega (arith, e.0, c.loop-step.invariant.width)

pub cycle_from-requires : goal.cycle_from-requires
cycle_from-requires c =
    let b = back_of c.args.edges.now c.args.last c.loop-step.step c.args.levels.now c.row_of-before.result.now c.loop-step.at c.loop-step.weight c.in-Some-back_edge.edge c.requires.rows c.requires.len c.loop-step-test.true c.row_of-before.ensures c.in-Some-back_edge.ensures in
    let e = All-contains (IsEdgeOf c.args.last) c.args.edges.now c.in-Some-back_edge.edge c.requires.edges b.is_in in
    let items : c.push.new.self.items ≡ c.loop-step.path.items ++ c.in-Some-back_edge.edge ∷ [] = c.in_ok-push.ensures.items in
    let l : c.len.result ≡ length c.loop-step.path.items = omega arith in
    let width : length (set c.loop-step.seen.items c.loop-step.at (Some c.len.result)) ≡ c.args.last = length-set c.loop-step.seen.items c.loop-step.at (Some c.len.result) ∙ c.loop-step.invariant.width in
    let again : at (set c.loop-step.seen.items c.loop-step.at (Some c.len.result)) c.in-Some-back_edge.edge.from ≡ Some c.in-Some-index.start = read_mark (set c.loop-step.seen.items c.loop-step.at (Some c.len.result)) c.in-Some-back_edge.edge.from c.index.result.now (Some c.in-Some-index.start) (omega (arith, e.0, width)) c.index.ensures c.in-Some-index.is in
    let m : set c.loop-step.seen.items c.loop-step.at (Some c.len.result) ≡ set c.loop-step.seen.items c.loop-step.at (Some (length c.loop-step.path.items)) = ap (λ (r : ℕ). set c.loop-step.seen.items c.loop-step.at (Some r)) l in
    let q = marks_at c.args.edges.now c.args.last c.args.state c.in-Some.end c.loop-step.step c.loop-step.at c.loop-step.weight c.loop-step.path.items c.loop-step.seen.items _ c.loop-step.invariant m c.in-Some-back_edge.edge.from c.in-Some-index.start again in
    rw (c.as_slice.ensures.value, items, length-append) (omega (arith, q.0))

pub returns-in-Some-index : goal.returns-in-Some-index
returns-in-Some-index c =
    let b = back_of c.args.edges.now c.args.last c.loop-step.step c.args.levels.now c.row_of-before.result.now c.loop-step.at c.loop-step.weight c.in-Some-back_edge.edge c.requires.rows c.requires.len c.loop-step-test.true c.row_of-before.ensures c.in-Some-back_edge.ensures in
    let e = All-contains (IsEdgeOf c.args.last) c.args.edges.now c.in-Some-back_edge.edge c.requires.edges b.is_in in
    let items : c.push.new.self.items ≡ c.loop-step.path.items ++ c.in-Some-back_edge.edge ∷ [] = c.in_ok-push.ensures.items in
    let l : c.len.result ≡ length c.loop-step.path.items = omega arith in
    let width : length (set c.loop-step.seen.items c.loop-step.at (Some c.len.result)) ≡ c.args.last = length-set c.loop-step.seen.items c.loop-step.at (Some c.len.result) ∙ c.loop-step.invariant.width in
    let again : at (set c.loop-step.seen.items c.loop-step.at (Some c.len.result)) c.in-Some-back_edge.edge.from ≡ Some c.in-Some-index.start = read_mark (set c.loop-step.seen.items c.loop-step.at (Some c.len.result)) c.in-Some-back_edge.edge.from c.index.result.now (Some c.in-Some-index.start) (omega (arith, e.0, width)) c.index.ensures c.in-Some-index.is in
    let m : set c.loop-step.seen.items c.loop-step.at (Some c.len.result) ≡ set c.loop-step.seen.items c.loop-step.at (Some (length c.loop-step.path.items)) = ap (λ (r : ℕ). set c.loop-step.seen.items c.loop-step.at (Some r)) l in
    let t = trail_closes c.args.edges.now c.args.last c.args.state c.in-Some.end c.loop-step.step c.loop-step.at c.loop-step.weight c.loop-step.path.items c.loop-step.seen.items _ c.in-Some-back_edge.edge c.in-Some-index.start c.requires.edges c.loop-step.invariant c.loop-step-test.true m b again in
    let path : c.as_slice.result.now ≡ c.loop-step.path.items ++ c.in-Some-back_edge.edge ∷ [] = c.as_slice.ensures.value ∙ items in
    let closed = subst (λ (x : List Edge). IsCycleOnWalk c.args.edges.now c.args.last c.args.state c.in-Some.end (reverse (drop c.in-Some-index.start x))) (sym path) t in
    if_ok c.cycle_from.result _ _
    (λ v is end h.
    let e : c.in-Some.end ≡ end = (let f = c.in-Some.ensures ∙ h in cc) in
    subst (λ (z : ℕ). IsCycleOnWalk c.args.edges.now c.args.last c.args.state z v.items) e
    (subst (λ (x : List Edge). IsCycleOnWalk c.args.edges.now c.args.last c.args.state c.in-Some.end x) (sym is) closed)) c.cycle_from.ensures

pub loop-step-preserved : goal.loop-step-preserved
loop-step-preserved c =
    let b = back_of c.args.edges.now c.args.last c.loop-step.step c.args.levels.now c.row_of-before.result.now c.loop-step.at c.loop-step.weight c.in-Some-back_edge.edge c.requires.rows c.requires.len c.loop-step-test.true c.row_of-before.ensures c.in-Some-back_edge.ensures in
    let e = All-contains (IsEdgeOf c.args.last) c.args.edges.now c.in-Some-back_edge.edge c.requires.edges b.is_in in
    let items : c.push.new.self.items ≡ c.loop-step.path.items ++ c.in-Some-back_edge.edge ∷ [] = c.in_ok-push.ensures.items in
    let l : c.len.result ≡ length c.loop-step.path.items = omega arith in
    let width : length (set c.loop-step.seen.items c.loop-step.at (Some c.len.result)) ≡ c.args.last = length-set c.loop-step.seen.items c.loop-step.at (Some c.len.result) ∙ c.loop-step.invariant.width in
    rw items (trail_push c.args.edges.now c.args.last c.args.state c.in-Some.end c.loop-step.step c.loop-step.at c.loop-step.weight c.loop-step.path.items c.loop-step.seen.items _ c.in-Some-back_edge.edge c.requires.edges c.loop-step.invariant c.loop-step-test.true
    (ap (λ (r : ℕ). set c.loop-step.seen.items c.loop-step.at (Some r)) l) b
    (read_mark (set c.loop-step.seen.items c.loop-step.at (Some c.len.result)) c.in-Some-back_edge.edge.from c.index.result.now None (omega (arith, e.0, width)) c.index.ensures c.in_default-index.is))

pub returns : goal.returns
returns c = λ end h. absurd (trail_end c.args.edges.now c.args.last c.args.state c.in-Some.end c.loop-step.step c.loop-step.at c.loop-step.weight c.loop-step.path.items c.loop-step.seen.items (omega arith) c.loop-step.invariant)
