use Rattle.std.proofs.Common.{◌≡◌, true, arith}
use borrow.Author.Count.{below_more}
use Rattle.dd_transfer.specs.placing.Formulas.{AllowsEach}
use Rattle.dd_transfer.proofs.deciding.allows_all.Goals as goal

pub loop-node-preserved : goal.loop-node-preserved
loop-node-preserved c =
    let yes : c.allows_each.result ≡ true = (let no = c.if-not-allows_each.false in cc) in
    below_more (AllowsEach c.args.rule.now) c.loop-node.node c.loop-node.invariant (c.allows_each.ensures yes)

pub returns : goal.returns
returns c = λ yes a lt. c.loop-node.invariant a (omega (arith, c.nodes-node-end.ensures.value, c.loop-node-test.false, lt))
