use Rattle.dd_written.specs.Values.{name_text}
use Rattle.dd_meanings.specs.Tree.{Fault}
use Rattle.dd_faults.specs.lemmas.Repeats.{once}
use Rattle.dd_meanings.proofs.names.names_of.Goals as goal

pub add_new-requires-clause-new : goal.add_new-requires-clause-new
add_new-requires-clause-new c =
    rw (c.loop-name.invariant, c.name_text.ensures) (once (name_text c.args.text.now) Fault.Twice c.args.written.now c.loop-name.name-index _ c.requires.distinct c.loop-name-test.true)
