use Rattle.std.proofs.Common.{◌≡◌, ◌+◌, length, take, true, false, get_or, arith, refl, sym, ◌∙◌}
use Rattle.std.proofs.lemmas.List.{length-take}
use Rattle.dd_derivation.specs.Derivations.{clauses_before}
use Rattle.dd_derivation.specs.{checking.MarksOf.known_of}
use Rattle.dd_derivation.proofs.Whole.{all_alive, before_none, known_next, derives_next}
use Rattle.dd_derivation.proofs.refutation.check_each.Goals as goal

pub loop-i-init : goal.loop-i-init
loop-i-init c =
    let e = all_alive c.args.clauses.now c.args.alive.now (omega arith) c.requires.alive in
    record {
      value = rw (before_none c.args.clauses.now, e) refl;
      later = λ k a b. c.requires.alive k b;
      older = c.requires.older;
    }

pub loop-i-preserved : goal.loop-i-preserved
loop-i-preserved c =
    let s = c.index-steps-i.result in
    let steps = c.args.steps.now in
    let clauses = c.args.clauses.now in
    let i = c.loop-i.i in
    let known = known_of (clauses_before clauses (take i steps)) c.loop-i.alive in
    let n = length c.loop-i.marks in
    let v = c.loop-i.invariant in
    let here : get_or c.check_one.new.alive (length clauses + i) false ≡ true =
    c.check_one.ensures.later (length clauses + i) (omega (arith, length-take i steps)) ∙ v.later (length clauses + i) (omega arith) (omega arith) in
    let next = known_next clauses steps i s c.loop-i.alive c.check_one.new.alive c.loop-i-test.true c.index-steps-i.is (omega arith) here (c.if-not-check_one.ensures.after refl) in
    record {
      value = rw (c.check_one.auto.marks, next) (v.value ∙ derives_next n known steps i s c.loop-i-test.true c.index-steps-i.is (c.if-not-is_empty.ensures.0 refl) (sym c.if-not-check_one.ensures.value));
      later = λ j a d. c.check_one.ensures.later j (omega (arith, length-take i steps)) ∙ v.later j (omega arith) (omega arith);
      older = λ j d h. (let o = c.check_one.ensures.older j d h in omega arith);
    }
