use Rattle.std.proofs.{Common.◌^◌, Common.ap, Common.arith, lemmas.Result.on_ok_weaker}
use Rattle.dd_circuit.specs.Circuits.{size}
use Rattle.dd_cnf.specs.Encoding.{opposing}
use Rattle.dd_compile.specs.Compiling.{compiled}
use Rattle.dd_problem.proofs.NodesLeft.{node_maker, rule_few, node_wired, node_step, nodes_done, false_in_range}
use Rattle.dd_problem.proofs.gates.push_some_false.Goals as goal

pub push_formula-requires-clause-few : goal.push_formula-requires-clause-few
push_formula-requires-clause-few c =
    rule_few c.args.inputs.now c.args.rule.now c.args.at.now opposing c.loop-node.node (2 ^ 24) c.args.encoder.now c.loop-node.encoder c.loop-node.literals.items c.expansion.result.now
    c.loop-node.invariant (omega arith) c.expansion.ensures.value c.requires.few

pub push_formula-requires-clause-wired : goal.push_formula-requires-clause-wired
push_formula-requires-clause-wired c =
    node_wired c.args.inputs.now c.args.rule.now c.args.at.now opposing c.loop-node.node c.args.encoder.now c.loop-node.encoder c.loop-node.literals.items c.expansion.result.now
    c.loop-node.invariant (omega arith) c.expansion.ensures.value c.requires.wired

pub push_clause-requires : goal.push_clause-requires
push_clause-requires c = rw c.deref.ensures.value c.loop-node.invariant.in_range

pub loop-node-preserved : goal.loop-node-preserved
loop-node-preserved c =
    let done = c.in_ok-signal.ensures in
    let w = c.args.inputs.now in
    let v = c.args.at.now in
    let n = size c.loop-node.encoder.circuit in
    let turned =
    false_in_range (size c.push_formula.new.self.circuit) c.in_ok-signal.signal c.literal_of.result c.negation.result done.in_range c.literal_of.ensures c.negation.ensures in
    node_step (node_maker w c.args.rule.now v) c.args.rule.now.nodes opposing c.loop-node.node c.args.encoder.now c.loop-node.encoder c.push_formula.new.self c.loop-node.literals.items
    c.push.new.self.items (compiled w v c.expansion.result.now n) c.in_ok-signal.signal c.negation.result c.loop-node.invariant (omega arith)
    (ap (λ e. compiled w v e n) c.expansion.ensures.value) done.ok done.signal turned.0 turned.1 c.in_ok-push.ensures.items

pub returns-clause-ok : goal.returns-clause-ok
returns-clause-ok c =
    on_ok_weaker c.push_clause.result
    (nodes_done (node_maker c.args.inputs.now c.args.rule.now c.args.at.now) c.args.rule.now.nodes opposing c.loop-node.node c.args.encoder.now c.loop-node.encoder c.push_clause.new.self
    c.loop-node.literals.items c.deref.result.now c.loop-node.invariant (omega arith) c.deref.ensures.value)
    c.push_clause.ensures.ok
