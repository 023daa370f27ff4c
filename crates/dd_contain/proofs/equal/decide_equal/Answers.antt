use Rattle.std.proofs.{Common.rules, Common.arith, lemmas.Grind.common_steps}
use Rattle.dd_contain.specs.declared.decision.Decision.{Decision}
use Rattle.dd_contain.specs.declared.decision.Decision.TheVariants.{Yes, No, Unknown}
use Rattle.dd_contain.specs.{Questions.HasNumbers, Questions.IsDecision, Equal.UnlessNo, Equal.joined, Equal.HasBothNumbers}
use Rattle.dd_formula.specs.LocalRule.{LocalRule}
use Rattle.dd_boxes.specs.Goals.{breaks}
use Rattle.dd_contain.proofs.equal.decide_equal.Goals as goal

unless_no : (d : Decision) (P : Type 0) → P → UnlessNo d P
unless_no (No tile) P h = tt
unless_no (Yes n steps) P h = h
unless_no Unknown P h = h

both_numbered : (x y : LocalRule) (left right : Decision) → HasNumbers x (breaks y) left → HasNumbers y (breaks x) right → HasBothNumbers x y (joined left right)
both_numbered x y (No tile) right h k = tt
both_numbered x y (Yes n steps) (No tile) h k = tt
both_numbered x y Unknown (No tile) h k = tt
both_numbered x y (Yes n steps) (Yes m others) h k = (h, k)
both_numbered x y (Yes n steps) Unknown h k = tt
both_numbered x y Unknown (Yes m others) h k = tt
both_numbered x y Unknown Unknown h k = tt

pub returns-in_ok-second-in_default-clause-decided : goal.returns-in_ok-second-in_default-clause-decided
returns-in_ok-second-in_default-clause-decided g c =
    let one : IsDecision c.args.left.now (breaks c.args.right.now) c.args.limits.now.radius c.args.limits.now.period c.in_default.first = search rules in
    let two = c.in_ok-second-in_default.ensures.decided in
    let numbers = both_numbered c.args.left.now c.args.right.now c.in_default.first c.in_ok-second-in_default.second one.numbered two.numbered in
    record {
      decided = record {
        left = c.in_default.first;
        right = c.in_ok-second-in_default.second;
        left_decided = one.decided;
        right_decided = unless_no c.in_default.first _ two.decided;
        join = search rules;
      };
      numbered = search rules;
    }

pub returns-in-No-clause-decided : goal.returns-in-No-clause-decided
returns-in-No-clause-decided c = grind (arith, common_steps)
