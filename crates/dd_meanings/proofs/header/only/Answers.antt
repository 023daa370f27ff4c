use Rattle.std.proofs.Common.{arith}
use Rattle.dd_meanings.proofs.{Nothing.parts, HeaderLaws.restriction_is}
use Rattle.dd_meanings.proofs.header.only.Goals as goal

pub returns : goal.returns
returns c = (grind (arith, parts), restriction_is c.args.context.now c.args.node c.args.symbols.now c.requires.some c.requires.faultless)
