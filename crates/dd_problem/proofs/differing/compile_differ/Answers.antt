use Rattle.std.proofs.Common.{◌≡◌, ◌≤◌, ◌+◌, ◌∷◌, ◌++◌, [], length, ap, sym, subst, ◌∙◌, arith}
use Rattle.std.proofs.lemmas.{Grind.common_steps, Bool.and_parts, Result.IfOk-weaker}
use Rattle.std.specs.{Prelude.Result, Prelude.Ok, Prelude.Err, Prelude.IfOk, Prelude.OnErr, List.All}
use Rattle.dd_lattice.specs.{Cells.cell, declared.position.Cell.Cell}
use Rattle.dd_formula.specs.{Automata.counted, declared.automaton.Automaton.Automaton}
use Rattle.dd_circuit.specs.declared.gates.{Signal.Signal, Gate.Gate, Gate.TheVariants.Or}
use Rattle.dd_circuit.specs.Circuits.{Network, IsSignal, size}
use Rattle.dd_compile.specs.{Compiling.Extends, Wiring.Wiring, ValueSignals.are_wired_there, lemmas.CaseGates.itself}
use Rattle.dd_compile.specs.lemmas.{ChoiceLaws.fresh_in_range, Progress.Extends-trans, StillWired.still_wired}
use Rattle.dd_boxes.specs.Boxes.{origin}
use Rattle.dd_problem.specs.Differing.{apart, differ_made}
use Rattle.dd_problem.proofs.DifferSteps.{is_one, second_few, apart_few, last_few, parts_below, differ_gates, differ_signal}
use Rattle.dd_problem.proofs.differing.compile_differ.Goals as goal

pub compile_value-requires-2-clause-wired : goal.compile_value-requires-2-clause-wired
compile_value-requires-2-clause-wired c =
    let k = c.symbols-symbols.result in
    let w : Wiring = c.args.inputs.now in
    let at : Cell = cell origin c.args.node in
    let g : Automaton = c.args.right.now in
    let both = and_parts (are_wired_there (size c.args.circuit.now) c.args.premise.now.symbols w ((counted c.args.left.now).reads c.args.node) at)
    (are_wired_there (size c.args.circuit.now) c.args.premise.now.symbols w ((counted g).reads c.args.node) at) c.requires.wired in
    let e = c.in_ok-first.ensures in
    let n = is_one k c.args.left.now g w at c.args.circuit.now c.compile_value.new.circuit e.extends.inputs e.gates in
    ap (λ j. are_wired_there (size c.compile_value.new.circuit) j w ((counted g).reads c.args.node) at) c.symbols-symbols.ensures.value
    ∙ still_wired (size c.args.circuit.now) (size c.compile_value.new.circuit) c.args.premise.now.symbols w at (omega (arith, n)) ((counted g).reads c.args.node) both.1

pub compile_value-requires-2-clause-few : goal.compile_value-requires-2-clause-few
compile_value-requires-2-clause-few c =
    let e = c.in_ok-first.ensures in
    let at : Cell = cell origin c.args.node in
    second_few c.symbols-symbols.result c.args.left.now c.args.right.now c.args.inputs.now at c.args.circuit.now c.compile_value.new.circuit e.extends.inputs e.gates
    (subst (λ k. size c.args.circuit.now + length (differ_made k c.args.left.now c.args.right.now c.args.inputs.now at (size c.args.circuit.now)).gates ≤ 16777216) (sym c.symbols-symbols.ensures.value) c.requires.few)

pub compile_apart-requires-clause-few : goal.compile_apart-requires-clause-few
compile_apart-requires-clause-few c =
    let e = c.in_ok-first.ensures in
    let h = c.in_ok-second.ensures in
    let at : Cell = cell origin c.args.node in
    apart_few c.symbols-symbols.result c.args.left.now c.args.right.now c.args.inputs.now at c.args.circuit.now c.compile_value.new.circuit e.extends.inputs e.gates
    c.compile_value-2.new.circuit h.extends.inputs h.gates c.deref.result.now c.deref-2.result.now (c.deref.ensures.value ∙ e.signals) (c.deref-2.ensures.value ∙ h.signals)
    (ap length c.deref-2.ensures.value ∙ (h.says.one_each ∙ sym (ap length c.deref.ensures.value ∙ e.says.one_each)))
    (subst (λ k. size c.args.circuit.now + length (differ_made k c.args.left.now c.args.right.now c.args.inputs.now at (size c.args.circuit.now)).gates ≤ 16777216) (sym c.symbols-symbols.ensures.value) c.requires.few)

pub or-requires-clause-few : goal.or-requires-clause-few
or-requires-clause-few c =
    let e = c.in_ok-first.ensures in
    let h = c.in_ok-second.ensures in
    let p = c.in_ok-apart.ensures in
    let at : Cell = cell origin c.args.node in
    last_few c.symbols-symbols.result c.args.left.now c.args.right.now c.args.inputs.now at c.args.circuit.now c.compile_value.new.circuit e.extends.inputs e.gates
    c.compile_value-2.new.circuit h.extends.inputs h.gates c.deref.result.now c.deref-2.result.now (c.deref.ensures.value ∙ e.signals) (c.deref-2.ensures.value ∙ h.signals)
    c.compile_apart.new.circuit p.extends.inputs p.gates c.in_ok-apart.apart.items c.deref-3.result.now p.signals c.deref-3.ensures.value
    (subst (λ k. size c.args.circuit.now + length (differ_made k c.args.left.now c.args.right.now c.args.inputs.now at (size c.args.circuit.now)).gates ≤ 16777216) (sym c.symbols-symbols.ensures.value) c.requires.few)

pub or-requires-clause-in_range : goal.or-requires-clause-in_range
or-requires-clause-in_range c =
    let e = c.in_ok-first.ensures in
    let h = c.in_ok-second.ensures in
    let p = c.in_ok-apart.ensures in
    let at : Cell = cell origin c.args.node in
    let two = size c.compile_value-2.new.circuit in
    let m = length (apart c.deref.result.now c.deref-2.result.now) in
    let below =
    parts_below c.symbols-symbols.result c.args.left.now c.args.right.now c.args.inputs.now at c.args.circuit.now c.compile_value.new.circuit e.extends.inputs e.gates
    c.compile_value-2.new.circuit h.extends.inputs h.gates c.deref.result.now c.deref-2.result.now (c.deref.ensures.value ∙ e.signals) (c.deref-2.ensures.value ∙ h.signals)
    c.compile_apart.new.circuit p.extends.inputs p.gates c.in_ok-apart.apart.items c.deref-3.result.now p.signals c.deref-3.ensures.value in
    subst (All (IsSignal (size c.compile_apart.new.circuit))) (sym (c.deref-3.ensures.value ∙ p.signals)) (fresh_in_range two m (size c.compile_apart.new.circuit) below)

last_gate : {E : Type 0} (r : Result Signal E) (now new : Network) (g : Gate) → new.inputs ≡ now.inputs → IfOk r (λ _. new.gates ≡ now.gates ++ g ∷ []) → OnErr r (new ≡ now) → Extends now new
last_gate (Ok s) now new g inputs gates same = record { inputs = inputs; added = g ∷ []; gates = gates }
last_gate (Err e) now new g inputs gates same = subst (Extends now) (sym same) (itself now)

pub returns-clause-extends : goal.returns-clause-extends
returns-clause-extends c =
    let start = c.args.circuit.now in
    let one = c.compile_value.new.circuit in
    let two = c.compile_value-2.new.circuit in
    let three = c.compile_apart.new.circuit in
    let new = c.or.new.self in
    Extends-trans start three new
    (Extends-trans start two three (Extends-trans start one two c.compile_value.ensures.extends c.compile_value-2.ensures.extends) c.compile_apart.ensures.extends)
    (last_gate c.or.result three new (Or c.deref-3.result.now) c.or.ensures.inputs c.or.ensures.gates c.or.ensures.err)

pub returns-clause-gates : goal.returns-clause-gates
returns-clause-gates c =
    let e = c.in_ok-first.ensures in
    let h = c.in_ok-second.ensures in
    let p = c.in_ok-apart.ensures in
    let at : Cell = cell origin c.args.node in
    IfOk-weaker c.or.result _ _ (λ s gates.
    differ_gates c.symbols-symbols.result c.args.left.now c.args.right.now c.args.inputs.now at c.args.circuit.now c.compile_value.new.circuit e.extends.inputs e.gates
    c.compile_value-2.new.circuit h.extends.inputs h.gates c.deref.result.now c.deref-2.result.now (c.deref.ensures.value ∙ e.signals) (c.deref-2.ensures.value ∙ h.signals)
    c.compile_apart.new.circuit p.extends.inputs p.gates c.in_ok-apart.apart.items c.deref-3.result.now p.signals c.deref-3.ensures.value c.or.new.self gates
    ∙ ap (λ k. c.args.circuit.now.gates ++ (differ_made k c.args.left.now c.args.right.now c.args.inputs.now at (size c.args.circuit.now)).gates) c.symbols-symbols.ensures.value) c.or.ensures.gates

both_ok : {T E : Type 0} (r : Result T E) (P Q R : T → Type 0) → IfOk r P → IfOk r Q → ((a : T) → P a → Q a → R a) → IfOk r R
both_ok (Ok a) P Q R p q then = then a p q
both_ok (Err e) P Q R p q then = tt

pub returns-clause-signal : goal.returns-clause-signal
returns-clause-signal c =
    let e = c.in_ok-first.ensures in
    let h = c.in_ok-second.ensures in
    let p = c.in_ok-apart.ensures in
    let at : Cell = cell origin c.args.node in
    both_ok c.or.result _ _ _ c.or.ensures.more c.or.ensures.signal (λ s is signal.
    differ_signal c.symbols-symbols.result c.args.left.now c.args.right.now c.args.inputs.now at c.args.circuit.now c.compile_value.new.circuit e.extends.inputs e.gates
    c.compile_value-2.new.circuit h.extends.inputs h.gates c.deref.result.now c.deref-2.result.now (c.deref.ensures.value ∙ e.signals) (c.deref-2.ensures.value ∙ h.signals)
    c.compile_apart.new.circuit p.extends.inputs p.gates c.in_ok-apart.apart.items c.deref-3.result.now p.signals c.deref-3.ensures.value s (size c.or.new.self) is signal
    ∙ ap (λ k. (differ_made k c.args.left.now c.args.right.now c.args.inputs.now at (size c.args.circuit.now)).signal) c.symbols-symbols.ensures.value)

pub compile_apart-requires-clause-first : goal.compile_apart-requires-clause-first
compile_apart-requires-clause-first c = grind (arith, common_steps)

pub returns-in_err-apart-clause-extends : goal.returns-in_err-apart-clause-extends
returns-in_err-apart-clause-extends c = grind (arith, common_steps)

pub returns-in_err-second-clause-extends : goal.returns-in_err-second-clause-extends
returns-in_err-second-clause-extends c = grind (arith, common_steps)
