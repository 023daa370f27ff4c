use Rattle.std.proofs.Common.{◌≡◌, ◌++◌, ◌∷◌, [], Ok, length, rules, w64, FitsSigned as SFits}
use Rattle.std.proofs.lemmas.Int.{to_z-of_z}
use Rattle.dd_output.specs.reading.{Stops.item, Stops.entries_at, Lists.signed_entry}
use Rattle.dd_output.proofs.{Loops.goes_on, Lines.integers_unroll}
use Rattle.dd_output.proofs.lists.integers_of.Goals as goal

pub loop-numbers-smaller : goal.loop-numbers-smaller
loop-numbers-smaller c =
    let entry = signed_entry c.args.least c.args.most in
    let is : entry (length c.loop-numbers.numbers) c.loop-numbers.rest.now ≡ Ok (item c.in_ok-number.number, c.in_ok-number.after.now) =
    rw (← c.len.ensures) (rw c.if-is_last.false at c.in_ok-number.ensures) in
    (integers_unroll c.args.least c.args.most c.requires.some c.requires.allowed).shorter (length c.loop-numbers.numbers) c.loop-numbers.rest.now c.in_ok-number.number c.in_ok-number.after.now is

pub loop-numbers-preserved : goal.loop-numbers-preserved
loop-numbers-preserved c =
    let entry = signed_entry c.args.least c.args.most in
    let is : entry (length c.loop-numbers.numbers) c.loop-numbers.rest.now ≡ Ok (item c.in_ok-number.number, c.in_ok-number.after.now) =
    rw (← c.len.ensures) (rw c.if-is_last.false at c.in_ok-number.ensures) in
    let fits : SFits w64 c.in_ok-number.number = search rules in
    let pushed : c.push.new.self ≡ c.loop-numbers.numbers ++ c.in_ok-number.number ∷ [] = simp to_z-of_z at c.in_ok-push.ensures.ok in
    rw pushed (goes_on entry (integers_unroll c.args.least c.args.most c.requires.some c.requires.allowed) c.loop-numbers.numbers c.loop-numbers.rest.now c.in_ok-number.number c.in_ok-number.after.now
    (entries_at entry 0 c.args.bytes.now) is c.loop-numbers.invariant)
