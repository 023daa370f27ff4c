use Rattle.std.proofs.Common.{◌≡◌, ◌≤◌, ◌<◌, ℕ, length, arith, refl, ap, sym, ◌∙◌, subst}
use Rattle.std.specs.List.{All}
use Rattle.dd_meancycle.specs.table.Levels.{IsEdgeOf}
use Rattle.dd_meancycle.proofs.{EdgeLaws.all_fit, Confirmed.all_bounded, Confirmed.confirmed_is}
use Rattle.dd_meancycle.proofs.confirming.confirmed.Goals as goal

pub are_potentials_along-requires : goal.are_potentials_along-requires
are_potentials_along-requires c =
    let len : c.args.graph.now.states ≡ length c.args.potentials.now = omega (arith, c.if-potentials-states.false, c.states-else-cycle-states.ensures.value) in
    subst (λ (n : ℕ). All (IsEdgeOf n) c.args.edges.now) len (all_fit c.args.graph.now c.args.edges.now c.states.ensures.kept c.requires)

pub returns-then-are_potentials_along : goal.returns-then-are_potentials_along
returns-then-are_potentials_along c =
    let w = c.in_ok-weight.ensures in
    let short : length c.args.cycle.now ≤ c.args.graph.now.states = omega (arith, c.if-cycle-states.false, c.states.ensures.value) in
    let len : length c.args.potentials.now ≡ c.args.graph.now.states = omega (arith, c.if-potentials-states.false, c.states-else-cycle-states.ensures.value) in
    confirmed_is c.args.graph.now c.args.edges.now c.args.cycle.now c.args.potentials.now _ c.reduced-mean.result c.requires w.0 w.1 refl short c.reduced-mean.ensures len (all_bounded c.args.potentials.now (sym c.if-are_bounded.ensures)) (c.if-are_potentials_along.ensures refl)
