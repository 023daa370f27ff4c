use Rattle.std.proofs.Common.{◌∙◌, subst, sym, arith}
use Rattle.std.specs.List.{All}
use Rattle.dd_circuit.specs.Circuits.{IsSignal, size}
use Rattle.dd_compile.specs.lemmas.Progress.{one_more}
use Rattle.dd_compile.specs.lemmas.CaseGates.{still_in_range, giving_in_range, giving_step}
use Rattle.dd_compile.proofs.values.give.Goals as goal

pub or-requires-clause-in_range : goal.or-requires-clause-in_range
or-requires-clause-in_range c =
    let start = size c.args.circuit.now in
    let now = size c.loop-symbol.circuit in
    subst (All (IsSignal now)) (sym (c.deref.ensures.value ∙ c.in_ok-members.ensures))
    (giving_in_range now c.loop-symbol.symbol c.args.given.now c.args.chosen.now (still_in_range start now c.args.chosen.now (omega (arith, c.loop-symbol.invariant.count)) c.requires.in_range))

pub loop-symbol-preserved : goal.loop-symbol-preserved
loop-symbol-preserved c =
    let e = c.in_ok-signal.ensures in
    giving_step c.args.symbols c.args.given.now c.args.chosen.now c.loop-symbol.symbol c.args.circuit.now c.loop-symbol.circuit c.or.new.self c.loop-symbol.signals.items c.deref.result.now
    c.push.new.self.items c.in_ok-signal.signal c.loop-symbol.invariant c.loop-symbol-test.true (c.deref.ensures.value ∙ c.in_ok-members.ensures) e.inputs e.gates e.signal c.in_ok-push.ensures.items

pub returns-in_err-push-clause-extends : goal.returns-in_err-push-clause-extends
returns-in_err-push-clause-extends c =
    one_more c.args.circuit.now c.loop-symbol.circuit c.or.new.self _ c.loop-symbol.invariant.extends c.or.ensures.inputs c.in_ok-signal.ensures.gates
