use Rattle.dd_formula.specs.lemmas.Cuts.{power_more}
use Rattle.dd_formula.proofs.counts.power.Goals as goal

pub loop-preserved : goal.loop-preserved
loop-preserved c =
    power_more c.args.limit c.args.base c.loop.counter c.loop.value c.times-value.result c.loop.invariant c.times-value.ensures
