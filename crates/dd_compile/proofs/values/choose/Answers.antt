use Rattle.std.proofs.Common.{◌≡◌, ◌≤◌, length, ◌++◌, ◌∷◌, [], List, get_or, false, ap, ◌∙◌, arith}
use Rattle.std.proofs.lemmas.{Grind.common_steps, List.get_or_default}
use Rattle.dd_circuit.specs.{declared.gates.Signal.Signal, Circuits.opposite}
use Rattle.dd_compile.specs.lemmas.CaseGates.{choosing_end, choosing_few, choosing_step}
use Rattle.dd_compile.specs.lemmas.Progress.{one_more}
use Rattle.dd_compile.proofs.values.choose.Goals as goal

none : Signal
none = record { variable = 0; positive = false }

pub and-requires-clause-few : goal.and-requires-clause-few
and-requires-clause-few c =
    let within : c.loop-signal.signal-index ≤ length c.args.rules.now = omega arith in
    choosing_few c.args.rules.now c.loop-signal.signal-index c.args.circuit.now c.loop-signal.circuit c.loop-signal.chosen.items c.loop-signal.before.items c.loop-signal.invariant within c.requires.few

pub loop-signal-preserved : goal.loop-signal-preserved
unfolding none
loop-signal-preserved c =
    let rules : List Signal = c.args.rules.now in
    let i = c.loop-signal.signal-index in
    let l : Signal = get_or rules i none in
    let members : List Signal = c.deref-in-loop-signal.result.now in
    let are : members ≡ l ∷ c.loop-signal.before.items =
    c.deref-in-loop-signal.ensures.value
    ∙ (c.in_ok-extend_from_slice.ensures.items
    ∙ (ap (λ xs. xs ++ c.deref.result.now) (c.in_ok-push.ensures.items ∙ ap (λ xs. xs ++ l ∷ []) c.new-members.ensures.items)
    ∙ ap (λ xs. l ∷ xs) c.deref.ensures.value)) in
    let e = c.in_ok-choice.ensures in
    let grown : c.push-in-loop-signal-2.new.self.items ≡ c.loop-signal.before.items ++ opposite l ∷ [] =
    c.in_ok-push-3.ensures.items ∙ ap (λ x. c.loop-signal.before.items ++ x ∷ []) c.opposite.ensures in
    choosing_step rules i c.args.circuit.now c.loop-signal.circuit c.and.new.self c.loop-signal.chosen.items c.loop-signal.before.items members
    c.push-in-loop-signal.new.self.items c.push-in-loop-signal-2.new.self.items l c.in_ok-choice.choice c.loop-signal.invariant c.requires.in_range c.loop-signal-test.true
    (get_or_default rules i none l c.loop-signal-test.true) are e.inputs e.gates e.signal c.in_ok-push-2.ensures.items grown

pub returns-in_err-push-2-clause-extends : goal.returns-in_err-push-2-clause-extends
returns-in_err-push-2-clause-extends c =
    one_more c.args.circuit.now c.loop-signal.circuit c.and.new.self _ c.loop-signal.invariant.extends c.and.ensures.inputs c.in_ok-choice.ensures.gates

pub returns-in_err-push-3-clause-extends : goal.returns-in_err-push-3-clause-extends
returns-in_err-push-3-clause-extends c =
    one_more c.args.circuit.now c.loop-signal.circuit c.and.new.self _ c.loop-signal.invariant.extends c.and.ensures.inputs c.in_ok-choice.ensures.gates

pub returns-in_err-push-4-clause-extends : goal.returns-in_err-push-4-clause-extends
returns-in_err-push-4-clause-extends c =
    one_more c.args.circuit.now c.loop-signal.circuit c.and-2.new.self _ c.loop-signal.invariant.extends c.and-2.ensures.inputs c.in_ok-choice-2.ensures.gates

pub returns-clause-extends : goal.returns-clause-extends
returns-clause-extends c =
    one_more c.args.circuit.now c.loop-signal.circuit c.and-2.new.self _ c.loop-signal.invariant.extends c.and-2.ensures.inputs c.in_ok-choice-2.ensures.gates

pub returns-clause-gates : goal.returns-clause-gates
returns-clause-gates c =
    let e = c.in_ok-choice-2.ensures in
    (choosing_end c.args.rules.now c.loop-signal.signal-index c.args.circuit.now c.loop-signal.circuit c.and-2.new.self c.loop-signal.chosen.items c.loop-signal.before.items
    c.deref-2.result.now c.push-2.new.self.items c.in_ok-choice-2.choice c.loop-signal.invariant c.loop-signal-test.false c.deref-2.ensures.value e.inputs e.gates e.signal c.in_ok-push-4.ensures.items).0

pub returns-clause-signals : goal.returns-clause-signals
returns-clause-signals c =
    let e = c.in_ok-choice-2.ensures in
    (choosing_end c.args.rules.now c.loop-signal.signal-index c.args.circuit.now c.loop-signal.circuit c.and-2.new.self c.loop-signal.chosen.items c.loop-signal.before.items
    c.deref-2.result.now c.push-2.new.self.items c.in_ok-choice-2.choice c.loop-signal.invariant c.loop-signal-test.false c.deref-2.ensures.value e.inputs e.gates e.signal c.in_ok-push-4.ensures.items).1

pub and-requires-2-clause-few : goal.and-requires-2-clause-few
and-requires-2-clause-few c = grind (arith, common_steps)
