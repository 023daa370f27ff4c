use Rattle.std.proofs.{Common.◌≡◌, Common.◌∷◌, Common.[], Common.map, Common.length, Common.arith, Common.rules, lemmas.Grind.common_steps}
use Rattle.std.proofs.lemmas.List.{length-append}
use Rattle.dd_written.specs.{Formulas.tree_depth, declared.tree.Formula.the_lemmas}
use Rattle.dd_faults.specs.{Formulas.formula_faults, lemmas.Layers.faults_chain, lemmas.Layers.faults_quantified, lemmas.Nothing.both_nil}
use Rattle.dd_meanings.specs.Formulas.{formula_of}
use Rattle.dd_meanings.proofs.{Nothing.none_from, Making.made_item}
use Rattle.dd_meanings.proofs.Layers.{formula_chain, depth_chain, depth_quantified, depth_from}
use Rattle.dd_meanings.proofs.formulas.+formula_in.Goals as goal

pub balls-requires-clause-faultless : goal.balls-requires-clause-faultless
balls-requires-clause-faultless t c =
    let none = rw (c.in-Quantified.is, faults_quantified) at c.requires.faultless in rw c.as_slice.ensures (both_nil _ _ (both_nil _ _ (both_nil _ _ none).0).1).1

pub formula_in-requires-in-Quantified : goal.formula_in-requires-in-Quantified
formula_in-requires-in-Quantified t c =
    let none = rw (c.in-Quantified.is, faults_quantified) at c.requires.faultless in
    let deep = rw (c.in-Quantified.is, depth_quantified) at c.requires.shallow in (
      search (rules, the_lemmas),
      rw (c.as_slice-in-Quantified.ensures, c.in_ok-inner-in-Quantified.ensures, c.get-in-Quantified.ensures)
          (omega (arith, deep, length-append c.args.scope.now (c.in-Quantified.variable ∷ [])), (both_nil _ _ none).1),
    )

pub loop-part-init : goal.loop-part-init
loop-part-init t c = record {
  made = c.new-made.ensures;
  faultless = rw (c.in-Chain.is, faults_chain, ← c.as_slice-part-items.ensures) at c.requires.faultless;
  shallow = rw (c.in-Chain.is, depth_chain, ← c.as_slice-part-items.ensures) at c.requires.shallow;
}

pub formula_in-requires-in-loop-part : goal.formula_in-requires-in-loop-part
formula_in-requires-in-loop-part t c =
    let fs = c.as_slice-part-items.result.now in
    let i = c.loop-part.part-index in
    let none = none_from (λ f. formula_faults c.args.context.now f c.args.scope.now) fs i c.part-item.result c.loop-part-test.true c.part-item.is c.loop-part.invariant.faultless in
    let deep = depth_from c.in-Chain.join (length (map tree_depth fs)) i (length c.args.scope.now) fs c.part-item.result c.loop-part-test.true c.part-item.is c.loop-part.invariant.shallow in
    (search (rules, the_lemmas), (deep.0, none.0))

pub loop-part-preserved : goal.loop-part-preserved
loop-part-preserved t c =
    let fs = c.as_slice-part-items.result.now in
    let i = c.loop-part.part-index in
    let none = none_from (λ f. formula_faults c.args.context.now f c.args.scope.now) fs i c.part-item.result c.loop-part-test.true c.part-item.is c.loop-part.invariant.faultless in
    let deep = depth_from c.in-Chain.join (length (map tree_depth fs)) i (length c.args.scope.now) fs c.part-item.result c.loop-part-test.true c.part-item.is c.loop-part.invariant.shallow in
    record {
      made = made_item (λ f. formula_of c.args.context.now f c.args.scope.now) fs i c.part-item.result c.loop-part.made _ c.in_ok-formula_in-in-Chain.field-0 c.loop-part-test.true c.part-item.is c.loop-part.invariant.made c.in_ok-formula_in-in-Chain.ensures c.in_ok-push-in-Chain.ensures.ok;
      faultless = none.1;
      shallow = deep.1;
    }

pub returns-after-loop-part : goal.returns-after-loop-part
returns-after-loop-part t c =
    let made : c.loop-part.made ≡ map (λ f. formula_of c.args.context.now f c.args.scope.now) c.in-Chain.parts = grind (arith, common_steps) in
    rw (c.in-Chain.is, formula_chain, ← made) c.joined.ensures
