use Rattle.std.proofs.{Common.◌<◌, Common.◌^◌, Common.ℕ, Common.refl, Common.arith, lemmas.Bool.and_parts, lemmas.Bool.and_from}
use Rattle.std.proofs.lemmas.Result.{on_ok_weaker}
use Rattle.dd_lattice.specs.Cells.{cell}
use Rattle.dd_formula.specs.Automata.{counted}
use Rattle.dd_circuit.specs.Circuits.{size}
use Rattle.dd_cnf.specs.Encoding.{literal_of}
use Rattle.dd_compile.specs.{Compiling.Maker, ValueSignals.are_wired_there, lemmas.StillWired.still_wired}
use Rattle.dd_boxes.specs.Boxes.{origin}
use Rattle.dd_problem.specs.Differing.{differ_made}
use Rattle.dd_problem.proofs.NodesLeft.{node_few, node_step, nodes_done, true_in_range}
use Rattle.dd_problem.proofs.gates.push_differ.Goals as goal

pub push_apart-requires-clause-wired : goal.push_apart-requires-clause-wired
push_apart-requires-clause-wired c =
    let x = c.args.premise.now in
    let w = c.args.inputs.now in
    let f = c.args.left.now in
    let g = c.args.right.now in
    let a = c.loop-node.node in
    let n = size c.args.encoder.now.circuit in
    let m = size c.loop-node.encoder.circuit in
    let node : a < x.nodes = omega arith in
    let both = and_parts (are_wired_there n x.symbols w ((counted f).reads a) (cell origin a)) (are_wired_there n x.symbols w ((counted g).reads a) (cell origin a)) (c.requires.wired a node) in
    and_from _ _ (still_wired n m x.symbols w (cell origin a) c.loop-node.invariant.more ((counted f).reads a) both.0)
    (still_wired n m x.symbols w (cell origin a) c.loop-node.invariant.more ((counted g).reads a) both.1)

pub push_apart-requires-clause-few : goal.push_apart-requires-clause-few
push_apart-requires-clause-few c =
    let x = c.args.premise.now in
    let maker : ℕ → Maker = λ a. differ_made x.symbols c.args.left.now c.args.right.now c.args.inputs.now (cell origin a) in
    node_few maker x.nodes literal_of c.loop-node.node (2 ^ 24) c.args.encoder.now c.loop-node.encoder c.loop-node.literals.items c.loop-node.invariant (omega arith) c.requires.few

pub push_clause-requires : goal.push_clause-requires
push_clause-requires c = rw c.deref.ensures.value c.loop-node.invariant.in_range

pub loop-node-preserved : goal.loop-node-preserved
loop-node-preserved c =
    let x = c.args.premise.now in
    let maker : ℕ → Maker = λ a. differ_made x.symbols c.args.left.now c.args.right.now c.args.inputs.now (cell origin a) in
    let done = c.in_ok-signal.ensures in
    node_step maker x.nodes literal_of c.loop-node.node c.args.encoder.now c.loop-node.encoder c.push_apart.new.self c.loop-node.literals.items c.push.new.self.items
    (maker c.loop-node.node (size c.loop-node.encoder.circuit)) c.in_ok-signal.signal c.literal_of.result c.loop-node.invariant (omega arith) refl done.ok done.signal c.literal_of.ensures
    (true_in_range (size c.push_apart.new.self.circuit) c.in_ok-signal.signal c.literal_of.result done.in_range c.literal_of.ensures) c.in_ok-push.ensures.items

pub returns-clause-ok : goal.returns-clause-ok
returns-clause-ok c =
    let x = c.args.premise.now in
    let maker : ℕ → Maker = λ a. differ_made x.symbols c.args.left.now c.args.right.now c.args.inputs.now (cell origin a) in
    on_ok_weaker c.push_clause.result
    (nodes_done maker x.nodes literal_of c.loop-node.node c.args.encoder.now c.loop-node.encoder c.push_clause.new.self c.loop-node.literals.items c.deref.result.now c.loop-node.invariant
    (omega arith) c.deref.ensures.value)
    c.push_clause.ensures.ok
