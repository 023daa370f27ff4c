use Rattle.dd_minimal.proofs.ListLaws.{all_new}
use Rattle.dd_minimal.proofs.laws.all_new.Goals as goal

pub returns : goal.returns
returns c = all_new
