use Rattle.std.proofs.Common.{ap, length}
use Rattle.dd_compile.specs.Compiling.{compiled}
use Rattle.dd_formula.specs.LocalRule.{expansion_at}
use Rattle.dd_problem.proofs.MadeGates.{made_ok}
use Rattle.dd_problem.proofs.encoder.Encoder.push_template.Goals as goal

pub returns-clause-ok : goal.returns-clause-ok
returns-clause-ok c =
    let done = c.place_template-made.ensures in
    made_ok c.args.self.now c.self.inside.circuit c.place_template-made.new.circuit c.self.inside.cnf c.push_made.new.cnf (length c.gates-before.result.now)
    (compiled c.args.inputs.now c.args.cell.now.position (expansion_at c.args.template.now.rule c.args.cell.now.node))
    c.push_made.result c.place_template-made.result c.self.view_is (ap length c.gates-before.ensures.value) done.extends c.push_made.ensures.signal done.gates c.push_made.ensures.clauses
