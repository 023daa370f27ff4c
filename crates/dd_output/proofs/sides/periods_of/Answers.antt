use Rattle.std.proofs.Common.{◌≡◌, ◌++◌, ◌∷◌, [], Ok, length}
use Rattle.dd_output.specs.reading.{Stops.item, Stops.entries_at, Periods.period_entry}
use Rattle.dd_output.proofs.{Loops.goes_on, Periods.periods_unroll}
use Rattle.dd_output.proofs.sides.periods_of.Goals as goal

pub loop-periods-smaller : goal.loop-periods-smaller
loop-periods-smaller c =
    let is : period_entry (length c.loop-periods.periods) c.loop-periods.rest.now ≡ Ok (item c.in-Period.period, c.in_ok-entry.after.now) =
    rw (← c.len.ensures) (rw c.in-Period.is at c.in_ok-entry.ensures) in
    periods_unroll.shorter (length c.loop-periods.periods) c.loop-periods.rest.now c.in-Period.period c.in_ok-entry.after.now is

pub loop-periods-preserved : goal.loop-periods-preserved
loop-periods-preserved c =
    let is : period_entry (length c.loop-periods.periods) c.loop-periods.rest.now ≡ Ok (item c.in-Period.period, c.in_ok-entry.after.now) =
    rw (← c.len.ensures) (rw c.in-Period.is at c.in_ok-entry.ensures) in
    let pushed : c.push.new.self ≡ c.loop-periods.periods ++ c.in-Period.period ∷ [] = c.in_ok-push-in-Period.ensures.ok in
    rw pushed (goes_on period_entry periods_unroll c.loop-periods.periods c.loop-periods.rest.now c.in-Period.period c.in_ok-entry.after.now
    (entries_at period_entry 0 c.args.bytes.now) is c.loop-periods.invariant)
