use Rattle.std.proofs.{Common.◌<◌, Common.get_or, lemmas.List.Elements.All-more}
use Rattle.dd_meancycle.specs.declared.edges.Edge.{Edge}
use Rattle.dd_meancycle.proofs.Confirmed.{all_taken}
use Rattle.dd_meancycle.proofs.confirming.are_ranks_along.Goals as goal

pub loop-edge-preserved : goal.loop-edge-preserved
loop-edge-preserved c =
    All-more (λ (e : Edge). get_or c.args.ranks.now e.to 0 < get_or c.args.ranks.now e.from 0)
    c.args.edges.now c.loop-edge.edge-index _ c.loop-edge-test.true c.loop-edge.invariant (c.is_rank_along.ensures c.if-not-is_rank_along.false)

pub returns : goal.returns
returns c = λ yes.
    all_taken (λ (e : Edge). get_or c.args.ranks.now e.to 0 < get_or c.args.ranks.now e.from 0)
    c.args.edges.now c.loop-edge.edge-index c.loop-edge-test.false c.loop-edge.invariant
