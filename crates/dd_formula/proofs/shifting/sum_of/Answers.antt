use Rattle.dd_lattice.specs.{Place.moved, lemmas.RangeLaws.in_range_if_given, lemmas.RangeLaws.outside_if_not_given}
use Rattle.dd_formula.proofs.Reaching.{near_sum}
use Rattle.dd_formula.proofs.shifting.sum_of.Goals as goal

pub returns : goal.returns
returns c = (in_range_if_given (moved c.args.p.now c.args.by.now) c.in-Some.sum c.in-Some.ensures).0

pub unreachable-requires : goal.unreachable-requires
unreachable-requires c =
    outside_if_not_given (moved c.args.p.now c.args.by.now) c.in_default.ensures (near_sum c.args.p.now c.args.by.now c.requires.near c.requires.by)
