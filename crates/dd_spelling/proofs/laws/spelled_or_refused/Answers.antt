use Rattle.std.proofs.Common.{refl}
use Rattle.dd_spelling.proofs.ScriptLaws.{spelled_or_refused}
use Rattle.dd_spelling.proofs.laws.spelled_or_refused.Goals as goal

pub returns-clause-either : goal.returns-clause-either
returns-clause-either c = λ bytes. spelled_or_refused c.formula_is_read.ensures bytes _ refl
