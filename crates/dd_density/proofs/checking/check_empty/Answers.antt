use Rattle.dd_strip.specs.Strips.{strip_for}
use Rattle.dd_density.proofs.Walks.{empty_of, fallen_of}
use Rattle.dd_density.proofs.checking.check_empty.Goals as goal

pub returns : goal.returns
returns c =
    let r = c.args.rule.now in
    let s = strip_for r c.args.strip in (
      λ yes. empty_of r s c.as_slice.result.now c.in_ok-graph.graph c.args.ranks.now c.in_ok-graph.ensures (c.are_ranks.ensures.0 yes),
      λ given. c.are_ranks.ensures.1 (fallen_of r s c.as_slice.result.now c.in_ok-graph.graph c.args.ranks.now c.in_ok-graph.ensures given),
    )
