use Rattle.std.proofs.Common.{◌≡◌, ◌∷◌, [], Bool, List, ap, sym, subst, ◌∙◌, arith, true, false, OnOk}
use Rattle.dd_lattice.specs.declared.position.Cell.{Cell}
use Rattle.dd_circuit.specs.Circuits.{Network, size}
use Rattle.dd_compile.specs.{Compiling.gate_count, RuleSignals.are_reads_wired, Templates.RuleAt, Wiring.Wiring}
use Rattle.dd_formula.specs.LocalRule.{LocalRule, expansion_at}
use Rattle.dd_problem.specs.{Clauses.Part, Clauses.part_gates, Clauses.part_clauses, Encodings.with_parts}
use Rattle.dd_problem.specs.{pushing.Pushed.wired_part, pushing.Pushed.wired_parts, lemmas.Growing.extended_size}
use Rattle.dd_problem.proofs.{PlacesLeft.taken, PlacesLeft.place_count, PlacesLeft.nothing_added, Templating.reads_tell}
use Rattle.dd_problem.proofs.gates.push_if_wired.Goals as goal

-- what the test says about the encoder's circuit
read_of : (k circuit : Network) (w : Wiring) (x : LocalRule) (d : Cell) (r : Bool) → k ≡ circuit → r ≡ are_reads_wired (size k) w x d → r ≡ are_reads_wired (size circuit) w x d
read_of k circuit w x d r same read = read ∙ ap (λ (j : Network). are_reads_wired (size j) w x d) same

pub returns-then-not-reads_are_wired-clause-ok : goal.returns-then-not-reads_are_wired-clause-ok
returns-then-not-reads_are_wired-clause-ok c =
    let w = c.args.inputs.now in
    let e = c.args.encoder.now in
    let x = c.args.rule.now in
    let d = c.args.cell.now in
    let tested = read_of c.circuit.result.now e.circuit w x d c.reads_are_wired.result c.circuit.ensures c.reads_are_wired.ensures.value in
    let none = reads_tell e.circuit.inputs (size e.circuit) w x d false c.reads_are_wired.result c.nodes-nodes.ensures.kept c.requires.node c.requires.near c.requires.signals c.requires.all (omega arith) tested c.if-not-reads_are_wired.true in
    nothing_added w x e d none

pub push_place-requires-clause-few : goal.push_place-requires-clause-few
push_place-requires-clause-few c =
    let w = c.args.inputs.now in
    let e = c.args.encoder.now in
    let x = c.args.rule.now in
    let d = c.args.cell.now in
    let n = size e.circuit in
    let tested = read_of c.circuit.result.now e.circuit w x d c.reads_are_wired.result c.circuit.ensures c.reads_are_wired.ensures.value in
    let one = reads_tell e.circuit.inputs n w x d true c.reads_are_wired.result c.nodes-nodes.ensures.kept c.requires.node c.requires.near c.requires.signals c.requires.all (omega arith) tested c.if-not-reads_are_wired.false in
    let same = ap (λ (t : RuleAt). gate_count (expansion_at t.rule d.node)) c.requires.template in
    let parts = wired_parts w e.circuit.inputs x (d ∷ []) in
    omega (arith, place_count w e.circuit.inputs n x d one, extended_size e (part_gates n parts) (part_clauses n parts), c.requires.few, same)

pub returns-clause-ok : goal.returns-clause-ok
returns-clause-ok c =
    let w = c.args.inputs.now in
    let e = c.args.encoder.now in
    let x = c.args.rule.now in
    let d = c.args.cell.now in
    let tested = read_of c.circuit.result.now e.circuit w x d c.reads_are_wired.result c.circuit.ensures c.reads_are_wired.ensures.value in
    let one = reads_tell e.circuit.inputs (size e.circuit) w x d true c.reads_are_wired.result c.nodes-nodes.ensures.kept c.requires.node c.requires.near c.requires.signals c.requires.all (omega arith) tested c.if-not-reads_are_wired.false in
    let placed = subst (λ (t : RuleAt). OnOk c.push_place.result (c.push_place.new.encoder ≡ with_parts e (wired_part w t.rule d ∷ []))) c.requires.template c.push_place.ensures.ok in
    subst (λ (ps : List Part). OnOk c.push_place.result (c.push_place.new.encoder ≡ with_parts e ps)) (sym (taken w e.circuit.inputs x d one)) placed
