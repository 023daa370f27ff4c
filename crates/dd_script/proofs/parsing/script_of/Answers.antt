use Rattle.dd_script.proofs.parsing.script_of.Goals as goal

pub walk-requires-clause-begun : goal.walk-requires-clause-begun
walk-requires-clause-begun c = rw (c.in_ok-draft.ensures.begun, c.has_topology.ensures)

pub walk-requires-clause-written : goal.walk-requires-clause-written
walk-requires-clause-written c = rw c.in_ok-draft.ensures.begun c.requires.written

pub walk-requires-clause-each : goal.walk-requires-clause-each
walk-requires-clause-each c = rw c.in_ok-draft.ensures.begun c.requires.each

pub returns-in_ok-into_script-in-Ok-clause-spelled : goal.returns-in_ok-into_script-in-Ok-clause-spelled
returns-in_ok-into_script-in-Ok-clause-spelled c = rw c.in_ok-into_script-in-Ok.ensures (rw c.in_ok-draft.ensures.begun at c.in-Ok.ensures.spelled)
