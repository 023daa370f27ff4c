use Rattle.std.proofs.{Common.arith, lemmas.Grind.common_steps}
use Rattle.dd_query.specs.Parts.{torus_periods}
use Rattle.dd_query.proofs.TorusLaws.{periods_small}
use Rattle.dd_query.proofs.parts.torus_of.Goals as goal

pub returns-in-len1-up : goal.returns-in-len1-up
returns-in-len1-up c =
    let small = periods_small _ _ (torus_periods c.args.context.now.text c.args.vectors.now) c.requires.nodes c.requires.periods in
    grind (arith, common_steps, small)
