use Rattle.std.proofs.Common.{◌≡◌, ◌++◌, List, map, take, ap, ◌∙◌, arith}
use Rattle.std.proofs.lemmas.List.{take_all}
use Rattle.dd_pattern.specs.Filling.{Filled}
use Rattle.dd_evidence.proofs.Patterns.{pattern_of, node_done}
use Rattle.dd_evidence.proofs.listing.push_node.Goals as goal

pub returns : goal.returns
returns c =
    let all = c.deref-filling-items.result.now in
    let start = c.args.patterns.now in
    let whole : take c.loop-filling.filling-index all ≡ all = take_all c.loop-filling.filling-index all (omega arith) in
    let is : c.loop-filling.patterns ≡ start ++ map (pattern_of c.args.node) all =
    c.loop-filling.invariant ∙ ap (λ (fs : List Filled). start ++ map (pattern_of c.args.node) fs) whole in
    node_done c.args.rule.now c.args.node c.in_ok-found.found.items all start c.loop-filling.patterns c.in_ok-found.ensures
    c.deref-filling-items.ensures.value is
