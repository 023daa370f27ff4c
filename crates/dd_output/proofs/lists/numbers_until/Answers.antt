use Rattle.std.proofs.Common.{◌≡◌, ◌++◌, ◌∷◌, [], Ok}
use Rattle.dd_output.specs.reading.{Stops.item, Stops.entries_at, Lists.number_entry}
use Rattle.dd_output.proofs.{Loops.goes_on, EndedLists.hint_unrolls}
use Rattle.dd_output.proofs.lists.numbers_until.Goals as goal

pub loop-entry-smaller : goal.loop-entry-smaller
loop-entry-smaller c =
    let is : number_entry c.args.end c.loop-entry.rest.now ≡ Ok (item c.in-Some.number, c.in_ok-entry.after.now) = rw c.in-Some.is at c.in_ok-entry.ensures in
    (hint_unrolls c.args.end).shorter 0 c.loop-entry.rest.now c.in-Some.number c.in_ok-entry.after.now is

pub loop-entry-preserved : goal.loop-entry-preserved
loop-entry-preserved c =
    let is : number_entry c.args.end c.loop-entry.rest.now ≡ Ok (item c.in-Some.number, c.in_ok-entry.after.now) = rw c.in-Some.is at c.in_ok-entry.ensures in
    let pushed : c.push.new.self.items ≡ c.loop-entry.buffer.items ++ c.in-Some.number ∷ [] = c.in_ok-push-in-Some.ensures.items in
    rw pushed (goes_on (λ _. number_entry c.args.end) (hint_unrolls c.args.end) c.loop-entry.buffer.items c.loop-entry.rest.now c.in-Some.number c.in_ok-entry.after.now
    (entries_at (λ _. number_entry c.args.end) 0 c.args.bytes.now) is c.loop-entry.invariant)
