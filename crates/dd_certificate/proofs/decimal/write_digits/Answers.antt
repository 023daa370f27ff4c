use Rattle.std.proofs.Common.{◌≡◌, ◌+◌, ◌-◌, ◌/◌, ◌%◌, ◌++◌, length, drop, set, ◌∙◌, arith}
use Rattle.std.proofs.lemmas.List.{length-set}
use Rattle.std.specs.Fmt.{decimal}
use Rattle.dd_certificate.proofs.Digits.{digit_more, digit_first, room_more}
use Rattle.dd_certificate.proofs.decimal.write_digits.Goals.{then-rest-ge10, else-rest-ge10}
use Rattle.dd_certificate.proofs.decimal.write_digits.Goals as goal

pub loop-rest-preserved : goal.loop-rest-preserved
loop-rest-preserved c =
    let i = c.loop-rest.invariant in
    let whole = decimal c.args.number ++ drop 20 c.args.digits.now in
    let at = c.loop-rest.at in
    let rest = c.loop-rest.rest in
    let digits = c.loop-rest.digits in
    let later = set digits (at - 1) (48 + rest % 10) in
    let many = c.loop-rest-test.true in
    let long : length digits ≡ 21 = c.loop-rest.auto.digits ∙ c.requires in
    let first = room_more rest at (at - 1) (omega (arith, i.room)) (omega (arith, many)) i.small in
    let second = room_more (rest / 10) (at - 1) (at - 2) (omega (arith, first.0)) (omega (arith, many)) first.1 in
    let one = digit_more whole rest at (at - 1) digits (omega (arith, many)) i.fits (omega (arith, i.room)) (omega (arith, i.within, long)) i.written in
    let two = digit_more whole (rest / 10) (at - 1) (at - 2) later (omega (arith, many)) (omega (arith, i.fits)) (omega (arith, first.0)) (rw (length-set digits (at - 1) (48 + rest % 10)) (omega (arith, i.within, long))) one in
    let back : at - 2 + 1 ≡ at - 1 = omega (arith, first.0) in
    let tens : rest % 100 / 10 ≡ rest / 10 % 10 = omega arith in
    let ones : rest % 100 % 10 ≡ rest % 10 = omega arith in
    let left : rest / 10 / 10 ≡ rest / 100 = omega arith in
    record {
      room = omega (arith, second.0);
      within = omega (arith, i.within);
      small = rw (← left) second.1;
      fits = omega (arith, i.fits);
      written = rw (back, tens, ones, ← left) two;
    }

pub returns-clause-written : goal.returns-clause-written
returns-clause-written c =
    let i = c.loop-rest.invariant in
    let whole = decimal c.args.number ++ drop 20 c.args.digits.now in
    let at = c.loop-rest.at in
    let rest = c.loop-rest.rest in
    let digits = c.loop-rest.digits in
    let long : length digits ≡ 21 = c.loop-rest.auto.digits ∙ c.requires in
    elim c.if-rest-ge10.branch [
      | then-rest-ge10 w ↦ (
          let later = set digits (at - 1) (48 + rest % 10) in
          let first = room_more rest at (at - 1) (omega (arith, i.room)) w.if-rest-ge10.true i.small in
          let one = digit_more whole rest at (at - 1) digits w.if-rest-ge10.true i.fits (omega (arith, i.room)) (omega (arith, i.within, long)) i.written in
          rw (w.digits-is, w.at-is, w.rest-is) (digit_first whole (rest / 10) (at - 1) (at - 1 - 1) later (omega (arith, c.loop-rest-test.false)) (omega (arith, first.0)) (rw (length-set digits (at - 1) (48 + rest % 10)) (omega (arith, i.within, long))) one))
      | else-rest-ge10 w ↦ rw (w.digits-is, w.at-is, w.rest-is) (digit_first whole rest at (at - 1) digits (omega (arith, w.if-rest-ge10.false)) (omega (arith, i.room)) (omega (arith, i.within, long)) i.written)
    ]
