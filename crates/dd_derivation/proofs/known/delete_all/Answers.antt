use Rattle.std.proofs.Common.{◌-◌, ◌≢◌, false, get_or, arith, sym, ◌∙◌, get_or-set_other}
use Rattle.dd_derivation.specs.lemmas.Numbers.{deletes_one, after_one, deletes_none, dead_none, past_none}
use Rattle.dd_derivation.proofs.known.delete_all.Goals as goal

pub returns-then-place-count-clause-value : goal.returns-then-place-count-clause-value
returns-then-place-count-clause-value c cs e =
    let alive = c.loop-number.alive in
    let number = get_or c.args.numbers.now c.loop-number.number-index 0 in
    sym (c.loop-number.invariant.value cs e ∙ deletes_none cs alive c.args.numbers.now c.loop-number.number-index c.loop-number-test.true (past_none cs alive number c.if-number-eq0.false (omega (arith, e)) (omega (arith, e))))

pub returns-then-not-alive-place-clause-value : goal.returns-then-not-alive-place-clause-value
returns-then-not-alive-place-clause-value c cs e =
    let alive = c.loop-number.alive in
    let number = get_or c.args.numbers.now c.loop-number.number-index 0 in
    sym (c.loop-number.invariant.value cs e ∙ deletes_none cs alive c.args.numbers.now c.loop-number.number-index c.loop-number-test.true (dead_none cs alive number c.if-number-eq0.false (omega (arith, e)) c.if-not-alive-place.true))

pub loop-number-preserved : goal.loop-number-preserved
loop-number-preserved c =
    let alive = c.loop-number.alive in
    let v = c.loop-number.invariant in
    let i = c.loop-number.number-index in
    let numbers = c.args.numbers.now in
    record {
      value = λ cs e. v.value cs e ∙ deletes_one cs alive numbers i c.loop-number-test.true c.if-number-eq0.false (omega (arith, e)) (omega (arith, e)) c.if-not-alive-place.false;
      after = λ cs. v.after cs ∙ after_one cs alive numbers i c.loop-number-test.true c.if-number-eq0.false;
      later = λ k h. (let o : k ≢ get_or numbers i 0 - 1 = omega arith in
          get_or-set_other alive _ k false false o ∙ v.later k h);
    }
