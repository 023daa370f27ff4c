use Rattle.std.proofs.Common.{ap, length}
use Rattle.dd_lattice.specs.Cells.{cell}
use Rattle.dd_boxes.specs.Boxes.{origin}
use Rattle.dd_problem.specs.Differing.{differ_made}
use Rattle.dd_problem.proofs.MadeGates.{made_ok}
use Rattle.dd_problem.proofs.encoder.Encoder.push_apart.Goals as goal

pub returns-clause-ok : goal.returns-clause-ok
returns-clause-ok c =
    let done = c.compile_differ-made.ensures in
    made_ok c.args.self.now c.self.inside.circuit c.compile_differ-made.new.circuit c.self.inside.cnf c.push_made.new.cnf (length c.gates-before.result.now)
    (differ_made c.args.premise.now.symbols c.args.left.now c.args.right.now c.args.inputs.now (cell origin c.args.node))
    c.push_made.result c.compile_differ-made.result c.self.view_is (ap length c.gates-before.ensures.value) done.extends c.push_made.ensures.signal done.gates c.push_made.ensures.clauses
