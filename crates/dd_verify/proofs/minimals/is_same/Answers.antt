use Rattle.dd_verify.proofs.Starring.{symbols_decide}
use Rattle.dd_verify.proofs.minimals.is_same.Goals as goal

pub returns-then-left-right : goal.returns-then-left-right
returns-then-left-right c =
    symbols_decide c.args.left.now c.args.right.now c.as_slice.result.now c.as_slice-then-left-right.result.now c.eq.result c.if-left-right.true c.as_slice.ensures
    c.as_slice-then-left-right.ensures c.eq.ensures
