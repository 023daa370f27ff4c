use Rattle.std.proofs.{Common.refl, Common.arith, lemmas.Iterator.YieldsList-from_range, lemmas.Iterator.items_from_collect}
use Rattle.dd_start.proofs.defaults.numbers_below.Goals as goal

pub returns : goal.returns
returns c = items_from_collect _ c.collect.ensures.ran (YieldsList-from_range 0 c.args.count c.args.count refl (omega arith))
