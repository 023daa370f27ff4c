use Rattle.std.proofs.Common.{◌≡◌, ◌≤◌, ◌∷◌, false, get_or, refl, sym, subst, ◌∙◌, arith}
use Rattle.std.proofs.lemmas.List.Elements.{All-same}
use Rattle.dd_clause.specs.declared.clause.Literal.{Literal}
use Rattle.dd_engines.specs.walking.Chains.{HasChain, numbers_of}
use Rattle.dd_engines.proofs.Chaining.{added_more}
use Rattle.dd_engines.proofs.chains.Chains.add.Goals as goal

pub loop-literal-preserved : goal.loop-literal-preserved
loop-literal-preserved c =
    let none : Literal = record { variable = 0; positive = false } in
    let items = c.literals-literal-items.result.now in
    let i = c.loop-literal.literal-index in
    let x : Literal = get_or items i none in
    let here : 1 ≤ x.variable = (All-same (HasChain c.args.self.now) items c.args.clause.now c.literals-literal-items.ensures c.requires.places i none c.loop-literal-test.true).0 in
    let told = c.in_ok-add_one.ensures in
    record {
      added = λ m has.
          added_more m x none items i c.args.number (numbers_of c.args.self.now m) (numbers_of c.loop-literal.self m) (numbers_of c.add_one.new.self m) c.loop-literal-test.true refl has.0 here
          (c.loop-literal.invariant.added m has)
          (λ e. subst (λ (y : Literal). numbers_of c.add_one.new.self y ≡ c.args.number ∷ numbers_of c.loop-literal.self y) (sym e) told.added)
          (λ differs. told.others m (has.0, omega (arith, has.1, c.loop-literal.invariant.long)) differs);
      linked = told.linked;
      long = c.add_one.ensures.long ∙ c.loop-literal.invariant.long;
    }
