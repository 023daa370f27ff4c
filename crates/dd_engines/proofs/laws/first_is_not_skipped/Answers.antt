use Rattle.dd_engines.proofs.Keeping.{head_asked, not_of_pair}
use Rattle.dd_engines.proofs.laws.first_is_not_skipped.Goals as goal

pub returns-clause-head : goal.returns-clause-head
returns-clause-head c = head_asked

pub returns-clause-pair : goal.returns-clause-pair
returns-clause-pair c = not_of_pair
