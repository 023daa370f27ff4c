use Rattle.std.proofs.{Common.◌≤◌, Common.arith, lemmas.Bool.false≢true}
use Rattle.std.specs.Prelude.{max}
use Rattle.dd_boxes.specs.{Views.goal_of, lemmas.FromBox.from_least}
use Rattle.dd_verify.proofs.{Counting.box_few, Counting.too_near, Counting.too_far, Deciding.nothing_holds}
use Rattle.dd_verify.proofs.refutations.check_yes.Goals as goal

pub least_radius-requires : goal.least_radius-requires
least_radius-requires c = (c.args.premise.now, c.requires.goal)

pub refutes-requires-clause-reaches : goal.refutes-requires-clause-reaches
refutes-requires-clause-reaches c =
    let low : c.in_ok-least.least ≤ c.args.radius = omega (arith, c.from.ensures, c.if-radius-from.false) in
    from_least (goal_of c.args.premise.now c.args.goal.now) c.in_ok-least.least c.args.radius (c.in_ok-least.ensures c.args.premise.now c.symbols-symbols.ensures.kept c.requires.goal) low

pub refutes-requires-clause-few : goal.refutes-requires-clause-few
refutes-requires-clause-few c =
    let high : c.args.radius ≤ max c.args.limits.now.radius c.in_ok-least.least =
    omega (arith, c.max-most.ensures, c.from-2.ensures, c.if-radius-from-2.false) in
    box_few c.args.limits.now c.args.premise.now (goal_of c.args.premise.now c.args.goal.now) c.in_ok-least.least c.args.radius c.symbols-symbols.ensures.kept c.requires
    (c.in_ok-least.ensures c.args.premise.now c.symbols-symbols.ensures.kept c.requires.goal) high

pub returns-then-radius-from : goal.returns-then-radius-from
returns-then-radius-from c = record {
  exact = nothing_holds _
      (too_near c.args.limits.now c.args.premise.now (goal_of c.args.premise.now c.args.goal.now) c.args.radius c.args.steps.now c.in_ok-least.least (c.in_ok-least.ensures c.args.premise.now c.symbols-symbols.ensures.kept c.requires.goal)
      (omega (arith, c.from.ensures, c.if-radius-from.true)));
  writable = λ h. absurd (false≢true h);
}

pub returns-then-radius-from-2 : goal.returns-then-radius-from-2
returns-then-radius-from-2 c = record {
  exact = nothing_holds _
      (too_far c.args.limits.now c.args.premise.now (goal_of c.args.premise.now c.args.goal.now) c.args.radius c.args.steps.now c.in_ok-least.least (c.in_ok-least.ensures c.args.premise.now c.symbols-symbols.ensures.kept c.requires.goal)
      (omega (arith, c.max-most.ensures, c.from-2.ensures, c.if-radius-from-2.true)));
  writable = λ h. absurd (false≢true h);
}
