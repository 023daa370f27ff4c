-- Integers modulo a natural number.
use Rattle.std.proofs.Common.{◌≡◌, ℕ, ◌+◌, ◌*◌, ◌%◌, ◌/◌, ◌<◌, ◌≤◌, ℤ, pos, ◌+ℤ◌, unsigned_abs, arith, ap, sym, ◌∙◌}
use Rattle.std.proofs.{Math.Nat.mul-le-mul_left, Math.Nat.add-mul-mod_self_right, lemmas.Int.ints, lemmas.Nat.div-add-mod'}
use Rattle.dd_pattern.specs.{Periods.residue, lemmas.Residues.residue_is}

-- x plus a multiple of n that is large enough to make the sum at least 0
record Raised (x : ℤ) (n : ℕ) : Type 0 where
  natural : ℕ
  is : x +ℤ pos (unsigned_abs x * n) ≡ pos natural

raised : (x : ℤ) (n : ℕ) → 0 < n → Raised x n
raised x n h =
    let one : unsigned_abs x * 1 ≤ unsigned_abs x * n = mul-le-mul_left (unsigned_abs x) h in
    record { natural = unsigned_abs (x +ℤ pos (unsigned_abs x * n)); is = omega (arith, ints) }

-- x and x + n have the same residue
pub residue_round : (x : ℤ) (n : ℕ) → 0 < n → residue (x +ℤ pos n) n ≡ residue x n
residue_round x n h =
    let p = raised x n h in
    let a = unsigned_abs x in
    let whole : x +ℤ pos (a * n) ≡ pos p.natural = p.is in
    let more : (x +ℤ pos n) +ℤ pos (a * n) ≡ pos (p.natural + 1 * n) = omega (arith, ints) in
    residue_is (x +ℤ pos n) n a (p.natural + 1 * n) h more ∙ (add-mul-mod_self_right p.natural 1 n ∙ sym (residue_is x n a p.natural h whole))

-- the residue of x + 1 is one more than that of x, or 0 again
pub residue_next : (x : ℤ) (n : ℕ) → 0 < n → residue (x +ℤ pos 1) n ≡ (residue x n + 1) % n
residue_next x n h =
    let p = raised x n h in
    let a = unsigned_abs x in
    let more : (x +ℤ pos 1) +ℤ pos (a * n) ≡ pos (p.natural + 1) = omega (arith, ints, p.is) in
    let here : residue x n ≡ p.natural % n = residue_is x n a p.natural h p.is in
    residue_is (x +ℤ pos 1) n a (p.natural + 1) h more ∙ (next p.natural n ∙ ap (λ (k : ℕ). (k + 1) % n) (sym here))
  where
    next : (m n : ℕ) → (m + 1) % n ≡ (m % n + 1) % n
    next m n =
        let e : m + 1 ≡ (m % n + 1) + m / n * n = omega (arith, div-add-mod' m n) in
        ap (λ (k : ℕ). k % n) e ∙ add-mul-mod_self_right (m % n + 1) (m / n) n
