use Rattle.std.proofs.Common.{arith}
use Rattle.dd_verify.proofs.Narrowing.{all_narrowed}
use Rattle.dd_verify.proofs.witnesses.narrowed.Goals as goal

pub returns : goal.returns
returns c =
    all_narrowed c.args.symbols.now c.args.size c.loop-symbol.symbol-index c.loop-symbol.list.items (omega arith) c.loop-symbol.invariant
