use Rattle.std.proofs.Common.{◌≡◌, ℕ, List, length, ◌+◌, Some, ap, sym, ◌∙◌, subst, arith, length-append}
use Rattle.std.proofs.lemmas.Grind.{common_steps}
use Rattle.dd_pattern.specs.Tile.{Tile, tile_look, cell_in}
use Rattle.dd_formula.specs.{Automata.first_case, declared.automaton.Cases.Cases}
use Rattle.dd_formula.specs.lemmas.ValueLaws.{value_given, placed_given}
use Rattle.dd_automaton.specs.Images.{IsImage}
use Rattle.dd_automaton.proofs.ImageLaws.{cases_look, image_from_box, tile_again, value_more}
use Rattle.dd_formula.specs.declared.automaton.Automaton.TheVariants as v
use Rattle.dd_automaton.proofs.image.image_by_cases.Goals as goal

pub value-requires : goal.value-requires
value-requires c =
    cases_look c.args.cases.now c.args.periodic.now c.requires c.symbols-count.ensures.kept c.reads_are_placed.ensures c.cell_at.result c.cell_at.ensures.in_box

pub loop-number-preserved : goal.loop-number-preserved
loop-number-preserved c =
    let cases : Cases = c.args.cases.now in
    let t : Tile = c.args.periodic.now in
    let n = c.loop-number.number in
    let value_at : ℕ → ℕ = λ k. first_case cases.cases cases.otherwise (tile_look t) (cell_in t k) in
    let here : c.value.result ≡ value_at n = c.value.ensures ∙ ap (first_case cases.cases cases.otherwise (tile_look t)) c.cell_at.ensures.value in
    record {
      as_many = ap length c.in_ok-push.ensures.items ∙ (length-append c.loop-number.symbols.items _ ∙ ap (λ k. k + 1) c.loop-number.invariant.as_many);
      values = value_more value_at c.loop-number.symbols.items c.push.new.self.items c.value.result n c.in_ok-push.ensures.items c.loop-number.invariant.as_many here c.loop-number.invariant.values;
    }

pub returns : goal.returns
returns c =
    let cases : Cases = c.args.cases.now in
    let t : Tile = c.args.periodic.now in
    let ss : List ℕ = c.loop-number.symbols.items in
    let kept = c.symbols-count.ensures.kept in
    let count = ap length c.symbols-count.ensures.value in
    let same = c.in-Ok.ensures.0 ∙ tile_again t c.dim.result c.shear.result c.nodes.result c.periods.result ss c.dim.ensures c.periods.ensures c.shear.ensures c.nodes.ensures in
    subst (IsImage (v.Given cases) t) (sym same)
    (image_from_box (v.Given cases) t c.requires.symbols kept.tile c.requires.formed (placed_given cases c.reads_are_placed.ensures) ss
    (omega (arith, count, c.loop-number.invariant.as_many, c.loop-number-test.false))
    (λ k h. c.loop-number.invariant.values k (omega (arith, h, count, c.loop-number-test.false)) ∙ ap Some (sym (value_given cases (tile_look t) (cell_in t k)))))

pub unreachable-requires : goal.unreachable-requires
unreachable-requires c = grind (arith, common_steps)
