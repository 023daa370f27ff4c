use Rattle.std.proofs.Common.{◌<◌, List, [], ◌∷◌, length, get_or, false, ap, arith}
use Rattle.std.proofs.lemmas.{Grind.common_steps, List.get_or_default}
use Rattle.dd_circuit.specs.declared.gates.Signal.{Signal}
use Rattle.dd_problem.proofs.Parting.{parting_in, parting_step, parting_end}
use Rattle.dd_problem.proofs.differing.compile_apart.Goals as goal

none : Signal
none = record { variable = 0; positive = false }

pub and-requires-clause-in_range : goal.and-requires-clause-in_range
unfolding none
and-requires-clause-in_range c =
    let xs : List Signal = c.args.first.now in
    let ys : List Signal = c.args.second.now in
    let i = c.loop-number.number in
    let x : Signal = get_or xs i none in
    let y : Signal = get_or ys i none in
    let below : i < length xs = c.loop-number-test.true in
    let below' : i < length ys = omega (arith, c.requires.as_many) in
    parting_in xs ys i c.args.circuit.now c.loop-number.circuit c.loop-number.signals.items x y c.loop-number.invariant below below'
    (get_or_default xs i none x below) (get_or_default ys i none y below') c.opposite.result c.opposite.ensures c.requires.first c.requires.second

pub loop-number-preserved : goal.loop-number-preserved
unfolding none
loop-number-preserved c =
    let xs : List Signal = c.args.first.now in
    let ys : List Signal = c.args.second.now in
    let i = c.loop-number.number in
    let x : Signal = get_or xs i none in
    let y : Signal = get_or ys i none in
    let o : Signal = c.opposite.result in
    let below : i < length xs = c.loop-number-test.true in
    let below' : i < length ys = omega (arith, c.requires.as_many) in
    let e = c.in_ok-signal.ensures in
    parting_step xs ys i c.args.circuit.now c.loop-number.circuit c.loop-number.signals.items x y c.loop-number.invariant below below'
    (get_or_default xs i none x below) (get_or_default ys i none y below') c.and.new.self (x ∷ o ∷ []) c.push.new.self.items c.in_ok-signal.signal
    (ap (λ s. x ∷ s ∷ []) c.opposite.ensures) e.inputs e.gates e.signal c.in_ok-push.ensures.items

pub returns : goal.returns
returns c =
    let done = parting_end c.args.first.now c.args.second.now c.loop-number.number c.args.circuit.now c.loop-number.circuit c.loop-number.signals.items c.loop-number.invariant c.loop-number-test.false in
    record { extends = c.loop-number.invariant.extends; gates = done.0; signals = done.1 }

pub returns-in_err-push-clause-extends : goal.returns-in_err-push-clause-extends
returns-in_err-push-clause-extends c = grind (arith, common_steps)
