use Rattle.std.proofs.{Common.◌*◌, Common.◌<◌, Common.ℕ, Common.zero, Common.suc, Common.arith, lemmas.Grind.common_steps}
use Rattle.dd_lattice.specs.Boxes.{volume}
use Rattle.dd_problem.proofs.layouts.nth_cell.Goals as goal

pub overflow_cast-result : goal.overflow_cast-result
overflow_cast-result c = grind (arith, common_steps)

-- if there is a cell, there is a node
some_node : (positions nodes number : ℕ) → number < positions * nodes → 0 < nodes
some_node positions zero number within = absurd (omega (arith, within))
some_node positions (suc nodes) number within = omega arith

pub nonzero_rem-result : goal.nonzero_rem-result
nonzero_rem-result c = rw c.from-nodes.ensures (some_node (volume c.args.bounds.now) c.args.nodes c.args.number c.requires)
