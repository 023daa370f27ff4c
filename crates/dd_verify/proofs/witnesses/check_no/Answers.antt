use Rattle.std.proofs.{Common.◌≡◌, Common.true, Common.subst, Common.sym, lemmas.Result.IfOk-weaker}
use Rattle.std.specs.Prelude.{◌↔◌}
use Rattle.dd_formula.specs.Living.{Fits}
use Rattle.dd_boxes.specs.{Views.goal_of, Witnesses.IsWitness}
use Rattle.dd_verify.specs.Evidence.{IsNo}
use Rattle.dd_verify.proofs.{Deciding.nothing_holds, Giving.given_from, Giving.shown_decides}
use Rattle.dd_verify.proofs.witnesses.check_no.Goals as goal

pub returns-in-None : goal.returns-in-None
returns-in-None c =
    let none = rw c.in-None.is at c.in_ok-given.ensures in
    nothing_holds _ (λ w. none (given_from c.args.limits.now c.args.premise.now (goal_of c.args.premise.now c.args.goal.now) c.args.periods.now c.args.shear c.args.symbols.now w))

pub shows-requires-clause-fits : goal.shows-requires-clause-fits
shows-requires-clause-fits c =
    let made = rw c.in-Some.is at c.in_ok-given.ensures in
    subst (Fits c.args.premise.now) (sym made.0) made.1.fits

pub returns-in-Some : goal.returns-in-Some
returns-in-Some c =
    let x = c.args.premise.now in
    let g = goal_of x c.args.goal.now in
    let made = rw c.in-Some.is at c.in_ok-given.ensures in
    IfOk-weaker c.shows.result (λ b. (b ≡ true) ↔ IsWitness x g c.in-Some.periodic)
    (λ b. (b ≡ true) ↔ IsNo c.args.limits.now x g c.args.periods.now c.args.shear c.args.symbols.now)
    (λ b told. shown_decides c.args.limits.now x g c.args.periods.now c.args.shear c.args.symbols.now c.in-Some.periodic b made told) c.shows.ensures
