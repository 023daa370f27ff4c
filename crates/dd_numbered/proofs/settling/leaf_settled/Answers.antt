use Rattle.std.proofs.{Common.get_or, lemmas.Option.slice_get-get_or}
use Rattle.dd_numbered.proofs.SettledLaws.{leaf_stays_settled}
use Rattle.dd_numbered.proofs.settling.leaf_settled.Goals as goal

pub returns-then-number-symbols : goal.returns-then-number-symbols
returns-then-number-symbols c =
    let ss = c.args.symbols.now in
    let k = c.args.number in
    leaf_stays_settled ss k c.args.symbol (get_or ss k 0) (slice_get-get_or ss k 0 c.if-number-symbols.true)
