use Rattle.std.proofs.Common.{ℕ, ◌<◌, length, get_or, ap, sym, ◌∙◌, arith, refl}
use borrow.Author.Count.{below_more}
use Rattle.std.proofs.lemmas.Bool.{false≢true}
use Rattle.dd_formula.specs.lemmas.AllowedTiles.{IsAllowedAt, allowed_is, allowed_from_box, box_from_allowed}
use Rattle.dd_formula.proofs.allowed.has_allowed.Goals as goal

pub returns-then-not-allows : goal.returns-then-not-allows
returns-then-not-allows c =
    let r = c.args.rule.now in
    let t = c.args.configuration.now in
    let count = c.symbols-symbols.ensures in
    let number = c.loop-number.number in
    let within : number < length t.symbols = omega (arith, ap length count.value, c.loop-number-test.true) in
    let told = allowed_is r t number c.cell_at-cell.result (get_or c.symbols-symbols.result.now number 0) c.allows.result
    c.cell_at-cell.ensures.value (ap (λ xs. get_or xs number 0) count.value) c.allows.ensures.value in
    (λ h. absurd (false≢true h), λ allowed. absurd (false≢true (sym c.if-not-allows.true ∙ (sym told ∙ box_from_allowed r t count.kept.tile allowed number within))))

pub loop-number-preserved : goal.loop-number-preserved
loop-number-preserved c =
    let r = c.args.rule.now in
    let t = c.args.configuration.now in
    let count = c.symbols-symbols.ensures in
    let number = c.loop-number.number in
    let told = allowed_is r t number c.cell_at-cell.result (get_or c.symbols-symbols.result.now number 0) c.allows.result
    c.cell_at-cell.ensures.value (ap (λ xs. get_or xs number 0) count.value) c.allows.ensures.value in
    below_more (IsAllowedAt r t) number c.loop-number.invariant (told ∙ c.if-not-allows.false)

pub returns : goal.returns
returns c =
    let t = c.args.configuration.now in
    let count = c.symbols-symbols.ensures in
    let all : (k : ℕ) → k < length t.symbols → IsAllowedAt c.args.rule.now t k =
    λ k h. c.loop-number.invariant k (omega (arith, ap length count.value, c.loop-number-test.false, h)) in
    let allowed = allowed_from_box c.args.rule.now t count.kept.tile all in
    (λ _. allowed, λ _. refl)
