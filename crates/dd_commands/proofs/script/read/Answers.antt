use Rattle.dd_commands.proofs.Texts.{all_written}
use Rattle.dd_commands.proofs.script.read.Goals as goal

pub returns-clause-written : goal.returns-clause-written
returns-clause-written c = rw c.in_ok-text.ensures (all_written _ _ _ _ c.in_ok-commands.ensures.1).0
