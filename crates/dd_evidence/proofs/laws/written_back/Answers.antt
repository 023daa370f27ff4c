use Rattle.dd_evidence.proofs.Tiles.{written_back}
use Rattle.dd_evidence.proofs.laws.written_back.Goals as goal

pub returns : goal.returns
returns c = written_back
