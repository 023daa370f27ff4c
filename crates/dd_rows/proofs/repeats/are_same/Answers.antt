use Rattle.std.proofs.Common.{◌≡◌, ℕ, get_or, ◌∙◌, sym}
use Rattle.std.specs.Prelude.{unwrap_or, slice_get}
use Rattle.dd_rows.proofs.RepeatLaws.{mapped_alike, mapped_whole}
use Rattle.dd_rows.proofs.repeats.are_same.Goals as goal

pub loop-number-preserved : goal.loop-number-preserved
loop-number-preserved c =
    let ns = c.args.numbers.now in
    let i = c.loop-number.number-index in
    let here : unwrap_or (slice_get c.args.one.now (get_or ns i 0)) 0 ≡ unwrap_or (slice_get c.args.other.now (get_or ns i 0)) 0 =
    sym c.symbol_at-here.ensures ∙ (c.if-here-there.false ∙ c.symbol_at-there.ensures) in
    mapped_alike (λ (n : ℕ). unwrap_or (slice_get c.args.one.now n) 0) (λ (n : ℕ). unwrap_or (slice_get c.args.other.now n) 0) ns i 0 c.loop-number-test.true c.loop-number.invariant here

pub returns : goal.returns
returns c = λ yes.
    let ns = c.args.numbers.now in
    mapped_whole (λ (n : ℕ). unwrap_or (slice_get c.args.one.now n) 0) (λ (n : ℕ). unwrap_or (slice_get c.args.other.now n) 0) ns c.loop-number.number-index c.loop-number-test.false c.loop-number.invariant
