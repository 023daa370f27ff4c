use Rattle.std.proofs.Common.{arith, ◌∙◌}
use Rattle.dd_derivation.specs.{lemmas.Numbers.after_one, lemmas.Numbers.after_past, lemmas.Numbers.after_zero, checking.MarksOf.known_of}
use Rattle.dd_derivation.proofs.known.delete_named.Goals.{then-number-ge1+then-place-alive, then-number-ge1+else-place-alive, else-number-ge1}
use Rattle.dd_derivation.proofs.known.delete_named.Goals as goal

pub loop-number-preserved : goal.loop-number-preserved
loop-number-preserved c cs =
    let alive = c.loop-number.alive in
    let v = c.loop-number.invariant cs in
    let i = c.loop-number.number-index in
    let numbers = c.args.numbers.now in
    v ∙ elim c.if-number-ge1.branch [
      | then-number-ge1+then-place-alive w ↦ rw w.alive-is (after_one cs alive numbers i c.loop-number-test.true (λ z. omega arith))
      | then-number-ge1+else-place-alive w ↦ rw w.alive-is (after_past cs alive numbers i c.loop-number-test.true (λ z. omega arith) (omega arith))
      | else-number-ge1 w ↦ rw w.alive-is (after_zero (known_of cs alive) numbers i c.loop-number-test.true (omega arith))
    ]
