use Rattle.std.proofs.Common.{◌≡◌, ◌<◌, arith, ap, sym, ◌∙◌, subst, [], eqb-true}
use Rattle.std.proofs.lemmas.{List.nil_from_length, Result.err_from_is_err_and}
use Rattle.std.specs.BTreeSet.{insert_key}
use Rattle.dd_lattice.specs.{Order.cell_cmp, Place.IsInRange}
use Rattle.dd_topology.specs.Balls.{IsInBall}
use Rattle.dd_topology.proofs.GrowthLaws.{IsGrown, grown_start, grown_more, stopped, left_range, cells_at_last, list_at_last, fault_from}
use Rattle.dd_topology.proofs.topology.Topology.ball_within.Goals as goal

pub loop-init : goal.loop-init
loop-init c =
    let keys = c.in_ok-insert.ensures.keys ∙ ap (λ l. insert_key cell_cmp l c.args.centre.now) c.requires.empty in
    rw (keys, c.in_ok-push.ensures.items, c.new-frontier.ensures.items)
    (grown_start c.args.self.now.edges c.args.centre.now (subst IsInRange c.position.view_is c.position.invariant))

pub returns-in_err-frontier-clause-fault : goal.returns-in_err-frontier-clause-fault
returns-in_err-frontier-clause-fault c =
    let p = err_from_is_err_and c.from_residual-in_err-frontier.result c.from_residual-in_err-frontier.ensures.1 in
    let within : c.loop.counter < c.args.radius = omega arith in
    rw (p.1, p.2)
    (fault_from (IsInBall c.args.self.now.edges c.args.centre.now c.args.radius) c.in_err-frontier.field-0.0 (λ range.
    left_range c.args.self.now.edges c.args.centre.now c.loop.counter c.args.radius c.loop.found.keys c.loop.frontier.items within c.loop.invariant
    (rw (c.edges.ensures.edges, c.deref.ensures.value) at (c.in_err-frontier.ensures.fault range))))

pub loop-preserved : goal.loop-preserved
loop-preserved c =
    grown_more c.args.self.now.edges c.args.centre.now c.loop.counter c.loop.found.keys c.loop.frontier.items c.next_frontier.new.found.keys c.in_ok-frontier.frontier.items c.loop.invariant
    (rw (c.edges.ensures.edges, c.deref.ensures.value) at c.in_ok-frontier.ensures.in_range)
    (rw (c.edges.ensures.edges, c.deref.ensures.value) at c.in_ok-frontier.ensures.cells)

at_end : (c : goal.After-drop-frontier-2) → IsGrown c.args.self.now.edges c.args.centre.now c.args.radius c.loop.found.keys c.loop.frontier.items
at_end c =
    let same : c.loop.counter ≡ c.args.radius = omega arith in
    subst (λ n. IsGrown c.args.self.now.edges c.args.centre.now n c.loop.found.keys c.loop.frontier.items) same c.loop.invariant

pub returns-clause-cells : goal.returns-clause-cells
returns-clause-cells c = cells_at_last c.listed-2.result (λ v. v.items) _ _ _ _ _ (at_end c) c.listed-2.ensures.cells c.listed-2.ensures.ascending

pub returns-clause-list : goal.returns-clause-list
returns-clause-list c = list_at_last c.listed-2.result (λ v. v.items) _ _ _ _ _ (at_end c) c.listed-2.ensures.cells c.listed-2.ensures.ascending

at_stop : (c : goal.After-drop-frontier-then-is_empty) → IsGrown c.args.self.now.edges c.args.centre.now c.args.radius c.loop.found.keys []
at_stop c =
    let nothing : c.loop.frontier.items ≡ [] = nil_from_length c.loop.frontier.items (sym c.loop.frontier.ok.0 ∙ eqb-true _ _ (sym c.if-is_empty.ensures)) in
    stopped c.args.self.now.edges c.args.centre.now c.loop.counter c.args.radius c.loop.found.keys (omega arith)
    (subst (λ l. IsGrown c.args.self.now.edges c.args.centre.now c.loop.counter c.loop.found.keys l) nothing c.loop.invariant)

pub returns-then-is_empty-clause-cells : goal.returns-then-is_empty-clause-cells
returns-then-is_empty-clause-cells c = cells_at_last c.listed.result (λ v. v.items) _ _ _ _ _ (at_stop c) c.listed.ensures.cells c.listed.ensures.ascending

pub returns-then-is_empty-clause-list : goal.returns-then-is_empty-clause-list
returns-then-is_empty-clause-list c = list_at_last c.listed.result (λ v. v.items) _ _ _ _ _ (at_stop c) c.listed.ensures.cells c.listed.ensures.ascending
