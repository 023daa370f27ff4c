use Rattle.dd_evidence.proofs.Starred.{starred_known, starred_minimal}
use Rattle.dd_evidence.proofs.laws.starred_are_minimal.Goals as goal

pub returns-clause-nodes : goal.returns-clause-nodes
returns-clause-nodes c = starred_known

pub returns-clause-minimal : goal.returns-clause-minimal
returns-clause-minimal c = starred_minimal
