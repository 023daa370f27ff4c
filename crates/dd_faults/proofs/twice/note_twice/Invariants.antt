use Rattle.std.proofs.Common.{◌≡◌, [], drop, length}
use Rattle.dd_faults.specs.Repeats.{first_repeat}
use Rattle.dd_faults.proofs.twice.note_twice.Given as goal

abbrev pub invariant-loop-item : goal.invariant-loop-item
invariant-loop-item g l =
    (first_repeat (g.T.Keyed.key l.text) g.T.Keyed.repeated l.seen (drop l.item-index l.all) ≡ first_repeat (g.T.Keyed.key l.text) g.T.Keyed.repeated [] l.all)
    × (l.found ≡ l.fn.found) × (length l.seen ≡ l.item-index)
