use Rattle.std.proofs.{Common.arith, lemmas.Grind.common_steps}
use Rattle.dd_meanings.proofs.ConfigurationLaws.{is_periodic, is_configuration}
use Rattle.dd_meanings.proofs.definitions.configuration.Goals as goal

pub returns : goal.returns
returns c =
    let periodic = is_periodic c.args.context.now c.args.name c.args.periods.now c.args.shear.now c.args.symbols.now c.requires.sound c.requires.some c.requires.faultless in
    let sound = is_configuration c.args.context.now c.args.name c.args.periods.now c.args.shear.now c.args.symbols.now c.requires.sound c.requires.some c.requires.faultless in
    (grind (arith, common_steps), sound)

pub unreachable-requires : goal.unreachable-requires
unreachable-requires c =
    let periodic = is_periodic c.args.context.now c.args.name c.args.periods.now c.args.shear.now c.args.symbols.now c.requires.sound c.requires.some c.requires.faultless in
    grind (arith, common_steps)
