use Rattle.dd_respond.proofs.Measuring.{bound_fits}
use Rattle.dd_respond.proofs.discharges.written_bound.Goals as goal

pub returns-clause-writable : goal.returns-clause-writable
returns-clause-writable c = bound_fits c.args.bound c.requires
