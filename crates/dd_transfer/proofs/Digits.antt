-- Digits of numbers.
use Rattle.std.proofs.Common.{◌≡◌, ℕ, zero, suc, ◌+◌, ◌/◌, ◌%◌, ◌<◌, List, [], ◌∷◌, ◌++◌, length, arith, refl, ap, sym, ◌∙◌}
use Rattle.std.proofs.lemmas.{Nat.mod_below, List.length-append, List.Elements.All-push}
use Rattle.std.specs.List.{All}
use Rattle.dd_transfer.specs.Windows.{digits}

pub digits_length : (base count number : ℕ) → length (digits base count number) ≡ count
digits_length base zero number = refl
digits_length base (suc count) number =
    let rest = digits_length base count (number / base) in
    omega (arith, rest, length-append (digits base count (number / base)) (number % base ∷ []))

pub digits_below : (base count number : ℕ) → 0 < base → All (λ x. x < base) (digits base count number)
digits_below base zero number h = λ k d lt. absurd (omega arith)
digits_below base (suc count) number h =
    All-push (λ x. x < base) (digits base count (number / base)) (number % base) (digits_below base count (number / base) h) (mod_below number base h)
