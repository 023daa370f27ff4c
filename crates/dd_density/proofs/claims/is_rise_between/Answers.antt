use Rattle.std.proofs.Common.{rules}
use Rattle.dd_density.proofs.claims.is_rise_between.Goals as goal

pub returns : goal.returns
returns c = search rules
