use Rattle.std.proofs.Common.{◌+◌, ap, ◌∙◌, arith}
use Rattle.dd_circuit.specs.Circuits.{size}
use Rattle.dd_compile.specs.Compiling.{wires_near, certain, gate_count}
use Rattle.dd_compile.specs.lemmas.Layers.{and_asks, or_asks, same_sides, second_asks, instances_at}
use Rattle.dd_compile.specs.lemmas.Progress.{Extends-trans, at_most_one_more, progress_step, progress_end, next_part, and_ends, or_ends, iff_ends}
use Rattle.dd_compile.proofs.compiling.+compile.Goals as goal

pub compile_expanded-compile_all-requires : goal.compile_expanded-compile_all-requires
compile_expanded-compile_all-requires t c =
    let n = size c.args.circuit.now in
    let asks = and_asks n (wires_near c.args.inputs.now c.args.at.now) c.args.expanded.now c.in-And.parts c.as_slice.result.now c.in-And.is c.as_slice.ensures in
    (omega (arith, asks.smaller, c.decreases), (omega (arith, asks.few, c.requires.few), asks.wired c.requires.wired))

pub compile_expanded-compile_all-requires-in-Or : goal.compile_expanded-compile_all-requires-in-Or
compile_expanded-compile_all-requires-in-Or t c =
    let n = size c.args.circuit.now in
    let asks = or_asks n (wires_near c.args.inputs.now c.args.at.now) c.args.expanded.now c.in-Or.parts c.as_slice-in-Or.result.now c.in-Or.is c.as_slice-in-Or.ensures in
    (omega (arith, asks.smaller, c.decreases), (omega (arith, asks.few, c.requires.few), asks.wired c.requires.wired))

pub compile_expanded-compile_expanded-requires-in-Iff-2 : goal.compile_expanded-compile_expanded-requires-in-Iff-2
compile_expanded-compile_expanded-requires-in-Iff-2 t c =
    let n = size c.args.circuit.now in
    let m = size c.compile_expanded-in-Iff.new.circuit in
    let asks =
    second_asks n m (wires_near c.args.inputs.now c.args.at.now) c.args.expanded.now c.in-Iff.left c.in-Iff.right c.get-in-Iff-2.result.now
    c.in-Iff.is c.get-in-Iff-2.ensures
    (c.in_ok-left-in-Iff.ensures.more ∙ ap (λ e. n + gate_count e) c.get-in-Iff.ensures) in
    (omega (arith, asks.smaller, c.decreases), (omega (arith, asks.few, c.requires.few), asks.wired c.requires.wired))

pub compile_all-compile_expanded-requires : goal.compile_all-compile_expanded-requires
compile_all-compile_expanded-requires t c =
    let i = c.loop-part.part-index in
    let part = c.part-item.result in
    let smaller = instances_at c.args.parts.now i part (omega arith) c.part-item.is in
    let asks =
    next_part (wires_near c.args.inputs.now c.args.at.now) c.args.parts.now i c.args.circuit.now c.loop-part.circuit c.loop-part.signals.items part
    c.loop-part.invariant (omega arith) c.part-item.is in
    (omega (arith, smaller, c.decreases), (omega (arith, asks.0, c.requires.few), asks.1))

pub compile_all-loop-part-preserved : goal.compile_all-loop-part-preserved
compile_all-loop-part-preserved t c =
    let e = c.in_ok-signal.ensures in
    progress_step (wires_near c.args.inputs.now c.args.at.now) c.args.parts.now c.loop-part.part-index c.args.circuit.now c.loop-part.circuit c.compile_expanded.new.circuit
    c.loop-part.signals.items c.push.new.self.items c.part-item.result c.in_ok-signal.signal
    c.loop-part.invariant (omega arith) c.part-item.is e.extends e.signal e.gates e.in_range e.more c.in_ok-push.ensures.items

pub compile_expanded-returns-in_ok-members-in-And-clause-gates : goal.compile_expanded-returns-in_ok-members-in-And-clause-gates
compile_expanded-returns-in_ok-members-in-And-clause-gates t c =
    let e = c.in_ok-members-in-And.ensures in
    let r = c.and-in-And.ensures in
    (and_ends (certain (wires_near c.args.inputs.now c.args.at.now)) c.args.expanded.now c.in-And.parts c.as_slice.result.now
    c.args.circuit.now c.compile_all.new.circuit c.and-in-And.new.self c.in_ok-members-in-And.members.items c.deref.result.now c.and-in-And.result
    c.in-And.is c.as_slice.ensures c.deref.ensures.value e.extends e.signals e.gates r.inputs r.gates r.signal).0

pub compile_expanded-returns-in_ok-members-in-And-clause-signal : goal.compile_expanded-returns-in_ok-members-in-And-clause-signal
compile_expanded-returns-in_ok-members-in-And-clause-signal t c =
    let e = c.in_ok-members-in-And.ensures in
    let r = c.and-in-And.ensures in
    (and_ends (certain (wires_near c.args.inputs.now c.args.at.now)) c.args.expanded.now c.in-And.parts c.as_slice.result.now
    c.args.circuit.now c.compile_all.new.circuit c.and-in-And.new.self c.in_ok-members-in-And.members.items c.deref.result.now c.and-in-And.result
    c.in-And.is c.as_slice.ensures c.deref.ensures.value e.extends e.signals e.gates r.inputs r.gates r.signal).1

pub compile_expanded-returns-in_ok-members-in-Or-clause-gates : goal.compile_expanded-returns-in_ok-members-in-Or-clause-gates
compile_expanded-returns-in_ok-members-in-Or-clause-gates t c =
    let e = c.in_ok-members-in-Or.ensures in
    let r = c.or-in-Or.ensures in
    (or_ends (certain (wires_near c.args.inputs.now c.args.at.now)) c.args.expanded.now c.in-Or.parts c.as_slice-in-Or.result.now
    c.args.circuit.now c.compile_all-in-Or.new.circuit c.or-in-Or.new.self c.in_ok-members-in-Or.members.items c.deref-in-Or.result.now c.or-in-Or.result
    c.in-Or.is c.as_slice-in-Or.ensures c.deref-in-Or.ensures.value e.extends e.signals e.gates r.inputs r.gates r.signal).0

pub compile_expanded-returns-in_ok-members-in-Or-clause-signal : goal.compile_expanded-returns-in_ok-members-in-Or-clause-signal
compile_expanded-returns-in_ok-members-in-Or-clause-signal t c =
    let e = c.in_ok-members-in-Or.ensures in
    let r = c.or-in-Or.ensures in
    (or_ends (certain (wires_near c.args.inputs.now c.args.at.now)) c.args.expanded.now c.in-Or.parts c.as_slice-in-Or.result.now
    c.args.circuit.now c.compile_all-in-Or.new.circuit c.or-in-Or.new.self c.in_ok-members-in-Or.members.items c.deref-in-Or.result.now c.or-in-Or.result
    c.in-Or.is c.as_slice-in-Or.ensures c.deref-in-Or.ensures.value e.extends e.signals e.gates r.inputs r.gates r.signal).1

pub compile_expanded-returns-in_ok-right-in-Iff-clause-gates : goal.compile_expanded-returns-in_ok-right-in-Iff-clause-gates
compile_expanded-returns-in_ok-right-in-Iff-clause-gates t c =
    let a = c.in_ok-left-in-Iff.ensures in
    let b = c.in_ok-right-in-Iff.ensures in
    let r = c.iff.ensures in
    (iff_ends (certain (wires_near c.args.inputs.now c.args.at.now)) c.args.expanded.now c.get-in-Iff.result.now c.get-in-Iff-2.result.now
    c.args.circuit.now c.compile_expanded-in-Iff.new.circuit c.compile_expanded-in-Iff-2.new.circuit c.iff.new.self c.in_ok-left-in-Iff.left c.in_ok-right-in-Iff.right c.iff.result
    (same_sides c.args.expanded.now c.in-Iff.left c.in-Iff.right c.get-in-Iff.result.now c.get-in-Iff-2.result.now c.in-Iff.is c.get-in-Iff.ensures c.get-in-Iff-2.ensures)
    a.extends a.signal a.gates b.extends b.signal b.gates r.inputs r.gates r.signal).0

pub compile_expanded-returns-in_ok-right-in-Iff-clause-signal : goal.compile_expanded-returns-in_ok-right-in-Iff-clause-signal
compile_expanded-returns-in_ok-right-in-Iff-clause-signal t c =
    let a = c.in_ok-left-in-Iff.ensures in
    let b = c.in_ok-right-in-Iff.ensures in
    let r = c.iff.ensures in
    (iff_ends (certain (wires_near c.args.inputs.now c.args.at.now)) c.args.expanded.now c.get-in-Iff.result.now c.get-in-Iff-2.result.now
    c.args.circuit.now c.compile_expanded-in-Iff.new.circuit c.compile_expanded-in-Iff-2.new.circuit c.iff.new.self c.in_ok-left-in-Iff.left c.in_ok-right-in-Iff.right c.iff.result
    (same_sides c.args.expanded.now c.in-Iff.left c.in-Iff.right c.get-in-Iff.result.now c.get-in-Iff-2.result.now c.in-Iff.is c.get-in-Iff.ensures c.get-in-Iff-2.ensures)
    a.extends a.signal a.gates b.extends b.signal b.gates r.inputs r.gates r.signal).1

pub compile_all-returns-in_err-push-clause-extends : goal.compile_all-returns-in_err-push-clause-extends
compile_all-returns-in_err-push-clause-extends t c =
    Extends-trans c.args.circuit.now c.loop-part.circuit c.compile_expanded.new.circuit c.loop-part.invariant.extends c.compile_expanded.ensures.extends

pub compile_all-returns-in_err-signal-clause-extends : goal.compile_all-returns-in_err-signal-clause-extends
compile_all-returns-in_err-signal-clause-extends t c =
    Extends-trans c.args.circuit.now c.loop-part.circuit c.compile_expanded.new.circuit c.loop-part.invariant.extends c.compile_expanded.ensures.extends

pub compile_expanded-returns-in_err-right-in-Iff-clause-extends : goal.compile_expanded-returns-in_err-right-in-Iff-clause-extends
compile_expanded-returns-in_err-right-in-Iff-clause-extends t c =
    Extends-trans c.args.circuit.now c.compile_expanded-in-Iff.new.circuit c.compile_expanded-in-Iff-2.new.circuit c.compile_expanded-in-Iff.ensures.extends c.compile_expanded-in-Iff-2.ensures.extends

pub compile_expanded-returns-in_ok-right-in-Iff-clause-extends : goal.compile_expanded-returns-in_ok-right-in-Iff-clause-extends
compile_expanded-returns-in_ok-right-in-Iff-clause-extends t c =
    let first = c.compile_expanded-in-Iff.new.circuit in
    let second = c.compile_expanded-in-Iff-2.new.circuit in
    let e = c.iff.ensures in
    at_most_one_more c.args.circuit.now second c.iff.new.self _ c.iff.result
    (Extends-trans c.args.circuit.now first second c.compile_expanded-in-Iff.ensures.extends c.compile_expanded-in-Iff-2.ensures.extends) e.inputs e.gates e.err

pub compile_expanded-returns-in_ok-members-in-And-clause-extends : goal.compile_expanded-returns-in_ok-members-in-And-clause-extends
compile_expanded-returns-in_ok-members-in-And-clause-extends t c =
    let e = c.and-in-And.ensures in
    at_most_one_more c.args.circuit.now c.compile_all.new.circuit c.and-in-And.new.self _ c.and-in-And.result c.compile_all.ensures.extends e.inputs e.gates e.err

pub compile_expanded-returns-in_ok-members-in-Or-clause-extends : goal.compile_expanded-returns-in_ok-members-in-Or-clause-extends
compile_expanded-returns-in_ok-members-in-Or-clause-extends t c =
    let e = c.or-in-Or.ensures in
    at_most_one_more c.args.circuit.now c.compile_all-in-Or.new.circuit c.or-in-Or.new.self _ c.or-in-Or.result c.compile_all-in-Or.ensures.extends e.inputs e.gates e.err

pub compile_all-returns-clause-more : goal.compile_all-returns-clause-more
compile_all-returns-clause-more t c =
    (progress_end (wires_near c.args.inputs.now c.args.at.now) c.args.parts.now c.loop-part.part-index c.args.circuit.now c.loop-part.circuit c.loop-part.signals.items
    c.loop-part.invariant c.loop-part-test.false).0

pub compile_all-returns-clause-gates : goal.compile_all-returns-clause-gates
compile_all-returns-clause-gates t c =
    (progress_end (wires_near c.args.inputs.now c.args.at.now) c.args.parts.now c.loop-part.part-index c.args.circuit.now c.loop-part.circuit c.loop-part.signals.items
    c.loop-part.invariant c.loop-part-test.false).1.0

pub compile_all-returns-clause-signals : goal.compile_all-returns-clause-signals
compile_all-returns-clause-signals t c =
    (progress_end (wires_near c.args.inputs.now c.args.at.now) c.args.parts.now c.loop-part.part-index c.args.circuit.now c.loop-part.circuit c.loop-part.signals.items
    c.loop-part.invariant c.loop-part-test.false).1.1
