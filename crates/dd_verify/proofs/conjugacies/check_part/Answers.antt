use Rattle.dd_boxes.specs.Views.{goal_of}
use Rattle.dd_question.specs.Conjugacies.{conjugacy_of}
use Rattle.dd_verify.specs.Evidence.{broken}
use Rattle.dd_verify.proofs.{BoxForms.decides, Deciding.nothing_holds, PartForms.broken_of, PartForms.broken_fits, PartForms.no_taken}
use Rattle.dd_verify.proofs.conjugacies.check_part.Goals as goal

pub returns-in-Some : goal.returns-in-Some
returns-in-Some c =
    let l = c.args.limits.now in
    let q = conjugacy_of c.args.c.now in
    let x = c.in-Some.premise.now in
    let g = goal_of x c.in-Some.goal in
    let is = c.in-Some.ensures.part in
    let fits = broken_fits l q c.requires.limits c.requires.sound c.args.part x g is c.args.periods.now c.args.shear c.args.symbols.now in
    let taken = no_taken l q c.requires.limits c.requires.sound c.args.part x g is c.args.periods.now c.args.shear c.args.symbols.now in
    decides c.check_no.result _ _ _ fits (broken is) (λ h. taken (broken_of h)) c.check_no.ensures

pub returns-in-None : goal.returns-in-None
returns-in-None c = nothing_holds _ (λ both. let found = broken_of both.1 in c.part.ensures.none c.in-None.is found.0 found.1 found.2)
