use Rattle.dd_respond.proofs.AgreeLaws.{right_agree}
use Rattle.dd_respond.proofs.laws.one_response.Goals as goal

pub returns : goal.returns
returns c = right_agree c.one_list.ensures c.one_density.ensures c.one_outcome.ensures c.one_starred.ensures
