use Rattle.dd_strips.proofs.OneDensity.{one_density_law}
use Rattle.dd_strips.proofs.laws.one_density.Goals as goal

pub returns : goal.returns
returns c = one_density_law
