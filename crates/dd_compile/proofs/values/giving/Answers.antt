use Rattle.std.proofs.Common.{◌≡◌, ◌<◌, ℕ, List, length, get_or, true, false, ap, ◌∙◌, arith, eq-eqb}
use Rattle.std.proofs.lemmas.{Grind.common_steps, Bool.ne_eqb, List.get_or_default}
use Rattle.dd_circuit.specs.declared.gates.Signal.{Signal}
use Rattle.dd_compile.specs.lemmas.CaseGates.{members_step}
use Rattle.dd_compile.proofs.values.giving.Goals.{then-other-symbol+in_ok-push, else-other-symbol}
use Rattle.dd_compile.proofs.values.giving.Goals as goal

none : Signal
none = record { variable = 0; positive = false }

pub loop-number-preserved : goal.loop-number-preserved
unfolding none
loop-number-preserved c =
    let xs : List ℕ = c.args.given.now in
    let fs : List Signal = c.args.chosen.now in
    let i = c.loop-number.number in
    let x : ℕ = get_or xs i 0 in
    let f : Signal = get_or fs i none in
    let below : i < length xs = c.loop-number-test.true in
    let below' : i < length fs = omega (arith, c.requires) in
    let is : x ≡ get_or xs i x = get_or_default xs i 0 x below in
    let is' : f ≡ get_or fs i f = get_or_default fs i none f below' in
    elim c.if-other-symbol.branch [
      | then-other-symbol+in_ok-push w ↦
          members_step c.args.symbol xs fs c.loop-number.members.items c.if-other-symbol.members.items i x f true c.loop-number.invariant below below' is is'
          (eq-eqb x c.args.symbol w.if-other-symbol.true) (ap (λ v. v.items) w.members-is ∙ w.in_ok-push.ensures.items)
      | else-other-symbol w ↦
          members_step c.args.symbol xs fs c.loop-number.members.items c.if-other-symbol.members.items i x f false c.loop-number.invariant below below' is is'
          (ne_eqb x c.args.symbol w.if-other-symbol.false) (ap (λ v. v.items) w.members-is)
    ]

pub returns : goal.returns
returns c = grind (arith, common_steps)
