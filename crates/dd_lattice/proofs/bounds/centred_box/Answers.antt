use Rattle.dd_lattice.specs.lemmas.BoxLaws.{centred_members}
use Rattle.dd_lattice.proofs.bounds.centred_box.Goals as goal

pub returns-clause-members : goal.returns-clause-members
returns-clause-members c = rw c.around_origin.ensures (centred_members c.args.dim c.args.radius)
