use Rattle.dd_trail.proofs.Keeping.{Keeps}
use Rattle.dd_trail.proofs.copies.keep_alive.Given as goal

abbrev pub invariant-loop-place : goal.invariant-loop-place
invariant-loop-place l = Keeps l.alive l.fn.numbers.items l.fn.codes.items l.kept l.place l.numbers.items l.codes.items
