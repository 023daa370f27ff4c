use Rattle.std.proofs.Common.{arith, subst}
use Rattle.dd_circuit.specs.Circuits.{size}
use Rattle.dd_lattice.specs.Cells.{cell}
use Rattle.dd_boxes.specs.{Boxes.origin, Goals.IsGoalFor, Views.goal_of, Views.numbers_of}
use Rattle.dd_problem.specs.{pushing.Pushed.is_wired_at, pushing.Pushed.are_both_wired, lemmas.Wiring.range_at}
use Rattle.dd_problem.proofs.gates.push_goal.Goals as goal

pub push_differ-requires-clause-over : goal.push_differ-requires-clause-over
push_differ-requires-clause-over c = subst (λ g. IsGoalFor c.args.premise.now (goal_of c.args.premise.now g)) c.in-Differ.is c.requires.goal

pub push_differ-requires-clause-wired : goal.push_differ-requires-clause-wired
push_differ-requires-clause-wired c = λ a below.
    let x = c.args.premise.now in
    let all = rw c.in-Differ.is at c.requires.wired in
    range_at (are_both_wired c.args.inputs.now (size c.args.encoder.now.circuit) (numbers_of x) c.in-Differ.left.now c.in-Differ.right.now) x.nodes 0 a all (omega arith) (omega arith)

pub push_some_false-requires-clause-wired : goal.push_some_false-requires-clause-wired
push_some_false-requires-clause-wired c = λ a below.
    let y = c.in-Breaks.rule.now in
    let all = rw c.in-Breaks.is at c.requires.wired in
    range_at (λ b. is_wired_at c.args.inputs.now (size c.args.encoder.now.circuit) y (cell origin b)) y.nodes 0 a all (omega arith) (omega arith)
