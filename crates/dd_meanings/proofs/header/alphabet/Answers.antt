use Rattle.std.proofs.Common.{arith}
use Rattle.dd_meanings.proofs.{Nothing.parts, HeaderLaws.names_are}
use Rattle.dd_meanings.proofs.header.alphabet.Goals as goal

pub returns : goal.returns
returns c =
    let few = names_are c.args.context.now.text 16 c.args.names.now c.in_ok-symbols.symbols c.in_ok-symbols.ensures c.requires.some (grind (arith, parts)) c.count-count.ensures.distinct in
    (grind (arith, parts), few)
