use Rattle.std.proofs.Common.{◌≡◌, ◌<◌, ℕ, length, Bool, true, false, Option, Some, None, sym, arith, ap, ◌∙◌}
use Rattle.std.proofs.lemmas.Option.{none-some, same_Some}
use borrow.Author.Count.{below_more}
use Rattle.std.specs.Prelude.{cond}
use Rattle.dd_lattice.specs.declared.position.Cell.{Cell}
use Rattle.dd_pattern.specs.{Tile.Tile, Tile.IsPeriodic, Tile.cell_in, Tile.tile_look, lemmas.BoxLaws.in_box}
use Rattle.dd_formula.specs.{LocalRule.LocalRule, LocalRule.IsRule, LocalRule.is_true, LocalRule.is_given, Living.Fits}
use Rattle.dd_formula.specs.lemmas.Reached.{box_given, tile_below}
use Rattle.dd_formula.proofs.LivesLaws.{true_in, lives_from_box, first_from_box}
use Rattle.dd_formula.proofs.rule.Rule.member.Goals as goal

-- `truth` returns a truth value at each cell of the box, since each cell that is read there lies in the range of positions and has a symbol
told : (r : LocalRule) (t : Tile) (i : ℕ) (c : Cell) (answer : Option Bool) → IsRule r → Fits r t → IsPeriodic t → i < length t.symbols → c ≡ cell_in t i →
    answer ≡ cond (is_given r c (tile_look t)) (Some (is_true r c (tile_look t))) None → answer ≡ Some (is_true r (cell_in t i) (tile_look t))
told r t i c answer rule fits ok within is_cell said =
    said
    ∙ (ap (λ d. cond (is_given r d (tile_look t)) (Some (is_true r d (tile_look t))) None) is_cell
    ∙ ap (λ b. cond b (Some (is_true r (cell_in t i) (tile_look t))) None) (box_given r t rule fits ok (cell_in t i) (in_box t ok.tile i within)))

pub truth-requires : goal.truth-requires
truth-requires c =
    let r = c.args.self.now in
    let t = c.args.periodic.now in
    let node : c.cell_at-cell.result.node < r.nodes = omega (arith, c.cell_at-cell.ensures.in_box.node, c.requires.nodes) in
    record { node = node; symbols = tile_below r t c.requires }

pub loop-number-preserved : goal.loop-number-preserved
loop-number-preserved c =
    let r = c.args.self.now in
    let t = c.args.periodic.now in
    let count = c.symbols-number-end.ensures in
    let number = c.loop-number.number in
    let within : number < length t.symbols = omega (arith, ap length count.value, c.loop-number-test.true) in
    let answer = told r t number c.cell_at-cell.result c.truth.result c.truth.ensures.kept c.requires count.kept within c.cell_at-cell.ensures.value c.truth.ensures.value in
    let here : is_true r (cell_in t number) (tile_look t) ≡ true = same_Some (is_true r (cell_in t number) (tile_look t)) c.in-Some-true.field-0 (sym answer ∙ c.in-Some-true.is) ∙ c.in-Some-true.field-0-test in
    below_more (true_in r t) number c.loop-number.invariant here

pub returns-in-Some-false : goal.returns-in-Some-false
returns-in-Some-false c =
    let r = c.args.self.now in
    let t = c.args.periodic.now in
    let count = c.symbols-number-end.ensures in
    let number = c.loop-number.number in
    let within : number < length t.symbols = omega (arith, ap length count.value, c.loop-number-test.true) in
    let answer = told r t number c.cell_at-cell.result c.truth.result c.truth.ensures.kept c.requires count.kept within c.cell_at-cell.ensures.value c.truth.ensures.value in
    let here : is_true r (cell_in t number) (tile_look t) ≡ false = same_Some (is_true r (cell_in t number) (tile_look t)) c.in-Some-false.field-0 (sym answer ∙ c.in-Some-false.is) ∙ c.in-Some-false.field-0-test in
    rw c.cell_at-cell.ensures.value (first_from_box r t count.kept.tile number within here c.loop-number.invariant)

pub unreachable-requires : goal.unreachable-requires
unreachable-requires c =
    let r = c.args.self.now in
    let t = c.args.periodic.now in
    let count = c.symbols-number-end.ensures in
    let number = c.loop-number.number in
    let within : number < length t.symbols = omega (arith, ap length count.value, c.loop-number-test.true) in
    let answer = told r t number c.cell_at-cell.result c.truth.result c.truth.ensures.kept c.requires count.kept within c.cell_at-cell.ensures.value c.truth.ensures.value in
    absurd (none-some (is_true r (cell_in t number) (tile_look t)) (sym c.in-None.is ∙ answer))

pub returns : goal.returns
returns c =
    let t = c.args.periodic.now in
    let count = c.symbols-number-end.ensures in
    let all : (k : ℕ) → k < length t.symbols → true_in c.args.self.now t k =
    λ k h. c.loop-number.invariant k (omega (arith, ap length count.value, c.loop-number-test.false, h)) in
    lives_from_box c.args.self.now t c.requires count.kept.tile all
