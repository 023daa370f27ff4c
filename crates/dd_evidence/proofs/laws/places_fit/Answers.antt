use Rattle.dd_evidence.proofs.Places.{places_fit}
use Rattle.dd_evidence.proofs.laws.places_fit.Goals as goal

pub returns : goal.returns
returns c = places_fit
