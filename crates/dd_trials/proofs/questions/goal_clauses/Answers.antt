use Rattle.std.proofs.Common.{◌≡◌, subst, arith}
use Rattle.std.specs.Prelude.{IfOk}
use Rattle.dd_formula.specs.{Counts.cut, ValueCounts.differ_clauses, declared.automaton.Automaton.Automaton}
use Rattle.dd_boxes.specs.{Goals.AreOver, Goals.IsGoalFor, Views.numbers_of, Views.goal_of}
use Rattle.dd_trials.proofs.questions.goal_clauses.Goals as goal

pub differ_clauses-requires-clause-nodes : goal.differ_clauses-requires-clause-nodes
differ_clauses-requires-clause-nodes c =
    let x = c.args.premise.now in
    let over : AreOver x (numbers_of x) c.in-Differ.left.now c.in-Differ.right.now = subst (λ g. IsGoalFor x (goal_of x g)) c.in-Differ.is c.requires in
    record { both = record { setting = numbers_of x; outer = over.left; inner = over.right }; few = omega (arith, c.nodes.ensures.value) }

pub returns-in-Differ : goal.returns-in-Differ
returns-in-Differ c =
    let x = c.args.premise.now in
    let f : Automaton = c.in-Differ.left.now in
    let g : Automaton = c.in-Differ.right.now in
    let r = c.differ_clauses.result in
    rw c.in-Differ.is
    (subst (λ a. IfOk r (λ n. n ≡ cut 1000 (differ_clauses x.symbols a f g))) c.nodes.ensures.value
    (subst (λ m. IfOk r (λ n. n ≡ cut 1000 (differ_clauses m c.nodes.result f g))) c.symbols.ensures.value c.differ_clauses.ensures))
