use Rattle.dd_checker.proofs.Lifting.{lifted_law}
use Rattle.dd_checker.proofs.laws.lifted.Goals as goal

pub returns : goal.returns
returns g c =
    lifted_law c.args.script.now (g.C.Configuration.nodes c.args._configuration.now) (g.C.Configuration.symbol_of c.args._configuration.now)
    c.requires.whole c.args._place.now c.requires.flat c.sound_questions.ensures c.args._query c.args._answer.now c.requires.yes
    (c.certified.ensures c.args._query c.args._answer.now c.requires.certificate)
