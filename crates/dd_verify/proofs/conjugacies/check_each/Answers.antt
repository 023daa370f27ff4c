use Rattle.dd_question.specs.Conjugacies.{conjugacy_of}
use Rattle.dd_verify.proofs.PartForms.{each_of, each_decides, lacking}
use Rattle.dd_verify.proofs.conjugacies.check_each.Goals as goal
use Rattle.dd_values.specs.lemmas.Results.{if_ok_both}

pub returns-then-not-branch : goal.returns-then-not-branch
returns-then-not-branch c = lacking _ _ _ _ c.in_ok-check_at.ensures.exact c.if-not-branch.true (λ h. (each_of h).image)

pub returns-then-not-branch-2 : goal.returns-then-not-branch-2
returns-then-not-branch-2 c = lacking _ _ _ _ c.in_ok-check_at-2.ensures.exact c.if-not-branch-2.true (λ h. (each_of h).image_back)

pub returns-then-not-branch-3 : goal.returns-then-not-branch-3
returns-then-not-branch-3 c = lacking _ _ _ _ c.in_ok-check_at-3.ensures.exact c.if-not-branch-3.true (λ h. (each_of h).round)

pub returns : goal.returns
returns c =
    let one = c.in_ok-check_at.ensures in
    let two = c.in_ok-check_at-2.ensures in
    let three = c.in_ok-check_at-3.ensures in
    if_ok_both c.check_at-4.result _ _ _
    (each_decides c.args.limits.now (conjugacy_of c.args.c.now) c.requires.limits c.requires.sound c.args.radii.now c.args.steps.now c.if-radii-ne-PARTS.false c.if-steps-ne-PARTS.false
    (one.exact.0 c.if-not-branch.false) (one.writable c.if-not-branch.false) (two.exact.0 c.if-not-branch-2.false) (two.writable c.if-not-branch-2.false)
    (three.exact.0 c.if-not-branch-3.false) (three.writable c.if-not-branch-3.false))
    c.check_at-4.ensures.exact c.check_at-4.ensures.writable
