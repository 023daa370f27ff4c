use Rattle.std.proofs.Common.{subst, arith}
use Rattle.dd_formula.specs.declared.automaton.Automaton.{Automaton}
use Rattle.dd_boxes.specs.{Goals.AreOver, Goals.IsGoalFor, Views.goal_of, Views.numbers_of}
use Rattle.dd_question.proofs.measures.measure_of.Goals as goal

pub differing-requires : goal.differing-requires
differing-requires c =
    let x = c.args.premise.now in
    let f : Automaton = c.in-Differ.left.now in
    let g : Automaton = c.in-Differ.right.now in
    let over : AreOver x (numbers_of x) f g = subst (λ h. IsGoalFor x (goal_of x h)) c.in-Differ.is c.requires in
    record {
      both = record { setting = numbers_of x; outer = over.left; inner = over.right };
      few = omega arith;
    }
