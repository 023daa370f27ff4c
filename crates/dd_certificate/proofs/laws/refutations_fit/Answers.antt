use Rattle.dd_certificate.proofs.Writable.{refuting_writable}
use Rattle.dd_certificate.proofs.laws.refutations_fit.Goals as goal

pub returns : goal.returns
returns c = refuting_writable
