use Rattle.std.proofs.Common.{rules, ◌≡◌, arith, ◌+◌, subst, sym, refl}
use Rattle.dd_question.specs.Conjugacies.{conjugacy_of}
use Rattle.dd_respond.specs.{Writable.IsWritableDecision, Conjugacies.ComesTo, joining.Findings.AreFound}
use Rattle.dd_respond.proofs.Joining.{yes_found, unknown_found}
use Rattle.dd_respond.proofs.conjugacies.first_failed.Goals.{in-Yes+in_ok-push-in-Yes, in-Unknown}
use Rattle.dd_respond.proofs.conjugacies.first_failed.Goals as goal

pub loop-number-preserved : goal.loop-number-preserved
loop-number-preserved g c =
    let l = c.args.limits.now in
    let parts = conjugacy_of c.args.conjugacy.now in
    let told = c.in_ok-radius.ensures in
    let found : AreFound l parts (c.loop-number.number + 1) c.match-branch-2.findings =
    elim c.match-branch-2.branch [
      | in-Yes+in_ok-push-in-Yes w ↦
          subst (AreFound l parts (c.loop-number.number + 1)) (sym w.findings-is)
          (yes_found l parts c.loop-number.number w.in-Yes.radius w.in-Yes.steps c.loop-number.findings w.push.new.self c.loop-number.invariant.found
          (subst (ComesTo l parts c.loop-number.number) w.in-Yes.is told.comes) w.push.ensures.small (subst IsWritableDecision w.in-Yes.is told.writable)
          w.in_ok-push-in-Yes.ensures.radii w.in_ok-push-in-Yes.ensures.steps w.push.ensures.open)
      | in-Unknown w ↦
          subst (AreFound l parts (c.loop-number.number + 1)) (sym w.findings-is)
          (unknown_found l parts c.loop-number.number c.loop-number.findings _ c.loop-number.invariant.found
          (subst (ComesTo l parts c.loop-number.number) w.in-Unknown.is told.comes) refl refl refl)
    ]
    in
    record {
      found = found;
      kept = c.kept_is_transitive.ensures _ _ _ c.loop-number.invariant.kept c.part_decided.ensures.engines.kept;
      first = λ _. c.first_asked_earlier.ensures _ _ _ c.loop-number.invariant.kept c.in_ok-radius.ensures.engines.first;
    }

pub returns-clause-failed : goal.returns-clause-failed
returns-clause-failed g c =
    let l = c.args.limits.now in
    let last : c.loop-number.number ≡ 5 = omega (arith, c.loop-number-test.false, c.loop-number.auto.number-end) in
    subst (λ k. AreFound l (conjugacy_of c.args.conjugacy.now) k c.loop-number.findings) last c.loop-number.invariant.found
