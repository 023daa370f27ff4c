use Rattle.std.proofs.Common.{◌≡◌, ◌++◌, ◌∷◌, [], Ok}
use Rattle.dd_output.specs.reading.{Stops.item, Stops.entries_at, Lists.literal_entry}
use Rattle.dd_output.proofs.{Loops.goes_on, EndedLists.literal_unrolls}
use Rattle.dd_output.proofs.lists.clause_of.Goals as goal

pub loop-entry-smaller : goal.loop-entry-smaller
loop-entry-smaller c =
    let is : literal_entry c.loop-entry.rest.now ≡ Ok (item c.in-Some.literal, c.in_ok-entry.after.now) = rw c.in-Some.is at c.in_ok-entry.ensures in
    literal_unrolls.shorter 0 c.loop-entry.rest.now c.in-Some.literal c.in_ok-entry.after.now is

pub loop-entry-preserved : goal.loop-entry-preserved
loop-entry-preserved c =
    let is : literal_entry c.loop-entry.rest.now ≡ Ok (item c.in-Some.literal, c.in_ok-entry.after.now) = rw c.in-Some.is at c.in_ok-entry.ensures in
    let pushed : c.push.new.self.items ≡ c.loop-entry.buffer.items ++ c.in-Some.literal ∷ [] = c.in_ok-push-in-Some.ensures.items in
    rw pushed (goes_on (λ _. literal_entry) literal_unrolls c.loop-entry.buffer.items c.loop-entry.rest.now c.in-Some.literal c.in_ok-entry.after.now
    (entries_at (λ _. literal_entry) 0 c.args.bytes.now) is c.loop-entry.invariant)
