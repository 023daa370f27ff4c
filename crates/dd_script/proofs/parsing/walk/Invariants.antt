use Rattle.dd_script.proofs.Walking.{Sofar}
use Rattle.dd_script.proofs.parsing.walk.Given as goal

abbrev pub invariant-loop-written : goal.invariant-loop-written
invariant-loop-written l = Sofar l.initial.draft.context.text l.commands l.written-index l.draft
