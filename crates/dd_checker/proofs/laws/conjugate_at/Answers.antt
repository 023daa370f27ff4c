use Rattle.dd_checker.proofs.Inverting.{inverse_law}
use Rattle.dd_checker.proofs.laws.conjugate_at.Goals as goal

pub returns : goal.returns
returns g c =
    inverse_law c.args.script.now c.dim-dimension.ensures.kept (g.C.Configuration.nodes c.args._configuration.now)
    (g.C.Configuration.symbol_of c.args._configuration.now) c.requires.whole c.args._place.now c.requires.flat c.args._query c.args._answer.now
    c.requires.conjugate c.requires.conjugacy (c.certified.ensures c.args._query c.args._answer.now c.requires.certificate)
