use Rattle.std.proofs.Common.{◌≡◌, ◌+◌, Bool, true, false, not, ℕ, ap, sym, ◌∙◌, get_or, arith}
use Rattle.std.proofs.lemmas.{Grind.common_steps, List.length-set, List.Elements.at_read}
use Rattle.std.specs.Bool.{beq}
use Rattle.dd_engines.proofs.Cycling.{changed_same, changed_other, differences_few}
use Rattle.dd_engines.proofs.cycle.Landmark.count.Goals as goal

pub overflow_add-self : goal.overflow_add-self
overflow_add-self c = grind (arith, common_steps, differences_few)

other_of : (c : goal.Else-index-values) → beq (get_or c.args.self.now.values.items c.args.place false) (get_or c.args.values.now c.args.place false) ≡ false
other_of c =
    at_read c.args.self.now.values.items (λ (b : Bool). beq b (get_or c.args.values.now c.args.place false) ≡ false) c.args.place c.index.result.now
    (omega (arith, c.requires.within, c.requires.counted.long)) c.index.ensures c.if-index-values.false false

pub overflow_sub-self : goal.overflow_sub-self
overflow_sub-self c =
    omega (arith, c.requires.counted.counted, changed_other c.args.self.now.values.items c.args.values.now c.args.place c.requires.counted.long c.requires.within (other_of c))

pub returns-then-index-values-clause-counted : goal.returns-then-index-values-clause-counted
returns-then-index-values-clause-counted c =
    let kept = c.args.self.now.values.items in
    let values = c.args.values.now in
    let place = c.args.place in
    let same : beq (get_or kept place false) (get_or values place false) ≡ true =
    at_read kept (λ (b : Bool). beq b (get_or values place false) ≡ true) place c.index.result.now (omega (arith, c.requires.within, c.requires.counted.long)) c.index.ensures c.if-index-values.true false in
    record {
      long = c.requires.counted.long ∙ sym (length-set values place (not (get_or values place false)));
      counted = ap (λ (n : ℕ). n + 1) c.requires.counted.counted ∙ sym (changed_same kept values place c.requires.counted.long c.requires.within same);
    }

pub returns-else-index-values-clause-counted : goal.returns-else-index-values-clause-counted
returns-else-index-values-clause-counted c =
    let kept = c.args.self.now.values.items in
    let values = c.args.values.now in
    let place = c.args.place in
    let other : beq (get_or kept place false) (get_or values place false) ≡ false =
    at_read kept (λ (b : Bool). beq b (get_or values place false) ≡ false) place c.index.result.now (omega (arith, c.requires.within, c.requires.counted.long)) c.index.ensures c.if-index-values.false false in
    record {
      long = c.requires.counted.long ∙ sym (length-set values place (not (get_or values place false)));
      counted = omega (arith, c.requires.counted.counted, changed_other kept values place c.requires.counted.long c.requires.within other);
    }
