use Rattle.dd_compile.proofs.SaidComposed.{says_from_near}
use Rattle.dd_compile.proofs.laws.says_its_value.Goals as goal

pub returns : goal.returns
returns c = says_from_near c.args.automaton.now c.says_near.ensures
