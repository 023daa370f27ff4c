use Rattle.dd_formed.specs.Formed.{numbers_of}
use Rattle.dd_formed.proofs.Making.{refused_is}
use Rattle.dd_formed.proofs.automata.composed.Goals as goal

pub returns-in-Ok : goal.returns-in-Ok
returns-in-Ok c = (c.in-Ok.ensures.ok, c.in-Ok.ensures.formed (numbers_of c.args.numbers) c.requires.outer c.requires.inner)

pub returns : goal.returns
returns c =
    refused_is (numbers_of c.args.numbers) c.args.outer c.args.inner _ c.refused.result (c.in-Err.ensures.fault (numbers_of c.args.numbers) c.requires.outer c.requires.inner) c.refused.ensures
