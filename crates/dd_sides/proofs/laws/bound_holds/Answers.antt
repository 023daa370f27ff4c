use Rattle.dd_sides.proofs.Assembly.{sides_hold}
use Rattle.dd_sides.proofs.laws.bound_holds.Goals as goal

pub returns : goal.returns
returns c = sides_hold
