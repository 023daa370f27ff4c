use Rattle.std.proofs.Common.{Contains}
use Rattle.dd_faults.proofs.Repeats.{twice_at}
use Rattle.dd_faults.proofs.twice.note_twice.Goals as goal

pub returns-in-Err-Twice : goal.returns-in-Err-Twice
returns-in-Err-Twice g c =
    let key = g.T.Keyed.key c.args.text.now in
    let there : Contains c.loop-item.seen (key c.item-item.result) = rw c.in_ok-key.ensures.0 at (rw c.in-Err-Twice.field-0-is at c.in-Err-Twice.ensures.refusal).1 in
    let one = twice_at key g.T.Keyed.repeated c.loop-item.seen c.args.all.now c.loop-item.item-index c.item-item.result c.loop-item-test.true c.item-item.is c.loop-item.invariant.0 there in
    rw (one, ← c.loop-item.invariant.1) (rw c.in_ok-key.ensures.1 at c.note_if.ensures)
