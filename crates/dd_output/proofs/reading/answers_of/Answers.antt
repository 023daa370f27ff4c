use Rattle.std.proofs.Common.{◌≡◌, ◌++◌, ◌∷◌, [], Ok, length}
use Rattle.dd_output.specs.reading.{Stops.item, Stops.entries_at, Whole.answer_entry}
use Rattle.dd_output.proofs.{Loops.goes_on, Outputs.answer_unrolls}
use Rattle.dd_output.proofs.reading.answers_of.Goals as goal

pub loop-answers-smaller : goal.loop-answers-smaller
loop-answers-smaller c =
    let is : answer_entry (length c.loop-answers.answers) c.loop-answers.rest.now ≡ Ok (item c.in-Some.answer, c.in_ok-entry.after.now) = rw (← c.len.ensures) (rw c.in-Some.is at c.in_ok-entry.ensures) in
    answer_unrolls.shorter (length c.loop-answers.answers) c.loop-answers.rest.now c.in-Some.answer c.in_ok-entry.after.now is

pub loop-answers-preserved : goal.loop-answers-preserved
loop-answers-preserved c =
    let is : answer_entry (length c.loop-answers.answers) c.loop-answers.rest.now ≡ Ok (item c.in-Some.answer, c.in_ok-entry.after.now) = rw (← c.len.ensures) (rw c.in-Some.is at c.in_ok-entry.ensures) in
    let pushed : c.push.new.self ≡ c.loop-answers.answers ++ c.in-Some.answer ∷ [] = c.in_ok-push-in-Some.ensures.ok in
    rw pushed (goes_on answer_entry answer_unrolls c.loop-answers.answers c.loop-answers.rest.now c.in-Some.answer c.in_ok-entry.after.now
    (entries_at answer_entry 0 c.args.bytes.now) is c.loop-answers.invariant)
