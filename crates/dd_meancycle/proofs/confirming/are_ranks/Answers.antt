use Rattle.std.proofs.Common.{◌≡◌, ℕ, length, arith, subst}
use Rattle.std.specs.List.{All}
use Rattle.dd_meancycle.specs.table.Levels.{IsEdgeOf}
use Rattle.dd_meancycle.proofs.{EdgeLaws.all_fit, Confirmed.ranks_are}
use Rattle.dd_meancycle.proofs.confirming.are_ranks.Goals as goal

pub are_ranks_along-requires : goal.are_ranks_along-requires
are_ranks_along-requires c =
    let len : c.args.graph.now.states ≡ length c.args.ranks.now = omega (arith, c.if-ranks-states.false, c.states.ensures.value) in
    subst (λ (n : ℕ). All (IsEdgeOf n) c.args.edges.now) len (all_fit c.args.graph.now c.args.edges.now c.states.ensures.kept c.requires)

pub returns : goal.returns
returns c = λ yes.
    let len : length c.args.ranks.now ≡ c.args.graph.now.states = omega (arith, c.if-ranks-states.false, c.states.ensures.value) in
    ranks_are c.args.graph.now c.args.edges.now c.args.ranks.now c.requires len (c.are_ranks_along.ensures yes)
