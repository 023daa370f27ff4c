-- Writing a number, starting with its last digit.
use Rattle.std.proofs.Common.{◌≡◌, ℕ, zero, suc, ◌+◌, ◌*◌, ◌/◌, ◌%◌, ◌^◌, ◌<◌, ◌≤◌, List, [], ◌∷◌, ◌++◌, set, length, drop, refl, ap, ◌∙◌, append_assoc, add-one, arith}
use Rattle.std.proofs.{Math.Nat.pow-suc, lemmas.Fmt.decimal_digit, lemmas.Fmt.decimal_step}
use Rattle.std.proofs.lemmas.List.{drop-set}
use Rattle.std.specs.Fmt.{decimal}

-- the last digit of the rest moves from the rest to the digits that are written
pub digit_more : (whole : List ℕ) (rest at k : ℕ) (digits : List ℕ) → 10 ≤ rest → rest < 2 ^ 64 → at ≡ suc k → k < length digits → whole ≡ decimal rest ++ drop at digits
    → whole ≡ decimal (rest / 10) ++ drop k (set digits k (48 + rest % 10))
digit_more whole rest at k digits many fits next within e =
    rw (drop-set digits k (48 + rest % 10) within, add-one k, ← next) (e ∙ ap (λ (xs : List ℕ). xs ++ drop at digits) (decimal_step rest many fits) ∙ append_assoc (decimal (rest / 10)) ((48 + rest % 10) ∷ []) (drop at digits))

-- the first digit is written, when the rest has one digit
pub digit_first : (whole : List ℕ) (rest at k : ℕ) (digits : List ℕ) → rest < 10 → at ≡ suc k → k < length digits → whole ≡ decimal rest ++ drop at digits
    → drop k (set digits k (48 + rest)) ≡ whole
digit_first whole rest at k digits few next within e =
    rw (drop-set digits k (48 + rest) within, add-one k, e, decimal_digit rest few, next) refl

-- there is room for one more digit
pub room_more : (rest at k : ℕ) → at ≡ suc k → 10 ≤ rest → rest < 10 ^ at → (0 < k) × (rest / 10 < 10 ^ k)
room_more rest at zero next many small = absurd (omega (arith, rw next at small))
room_more rest at (suc k) next many small =
    let small : rest < 10 ^ suc k * 10 = rw (← pow-suc 10 (suc k), ← next) small in
    (omega arith, omega (arith, small))
