-- The law of signed numbers.
use Rattle.std.proofs.Common.{◌≡◌, ℕ, suc, ◌+◌, ◌-◌, ◌%◌, ◌^◌, ◌<◌, ◌≤◌, List, [], ◌∷◌, ◌++◌, false, inl, inr, ◌⊎◌, refl, ap, subst, arith}
use Rattle.std.proofs.lemmas.{Bool.ne_eqb, Fmt.decimal_digit, Fmt.decimal_by_steps}
use Rattle.std.specs.{Prelude.ℤ, Prelude.pos, Prelude.negsuc, Prelude.unsigned_abs, Prelude.◌==◌, Fmt.decimal, Fmt.signed_decimal}
use Rattle.dd_output.specs.reading.Stops.{is_digit, number_at, after_at, map_at}
use Rattle.dd_output.specs.reading.Lists.{minus_of, plus_of, signed_at}
use Rattle.dd_output.proofs.{Readers.Reads, Readers.map_reads, Readers.same_reads, Readers.choice_reads, Tokens.after_reads}
use Rattle.dd_output.proofs.{Numbers.IsEnd, Numbers.number_reads, Forms.InBounds, Forms.number_text}

-- the text ds begins with a byte from `least` to 57, which is the digit 9
pub record FirstDigit (least : ℕ) (ds : List ℕ) : Type 0 where
  pub first : ℕ
  pub more : List ℕ
  pub is : ds ≡ first ∷ more
  pub low : least ≤ first
  pub high : first ≤ 57

pub first_digit : (n least : ℕ) → n < 2 ^ 64 → least ≤ 1 → least ≤ n → FirstDigit (48 + least) (decimal n)
first_digit n least wide small = decimal_by_steps (λ n ds. least ≤ n → FirstDigit (48 + least) ds)
    (λ n few some. record { first = 48 + n; more = []; is = refl; low = omega arith; high = omega arith })
    (λ n ds many ih some.
    let f = ih (omega arith) in
    record { first = f.first; more = f.more ++ (48 + n % 10) ∷ []; is = ap (λ (l : List ℕ). l ++ (48 + n % 10) ∷ []) f.is; low = f.low; high = f.high })
    n wide

abbrev pub InRange : ℕ → ℕ → ℕ → ℤ × ℕ → Type 0
InRange bound end other p = (unsigned_abs p.0 ≤ bound) × IsEnd end other p.1

abbrev pub signed_text : ℤ × ℕ → List ℕ
signed_text p = signed_decimal p.0 ++ p.1 ∷ []

abbrev IsMinus : ℕ → ℕ → ℕ → ℤ × ℕ → Type 0
IsMinus bound end other (pos n, e) = ⊥
IsMinus bound end other (negsuc n, e) = (suc n ≤ bound) × IsEnd end other e

abbrev IsPlus : ℕ → ℕ → ℕ → ℤ × ℕ → Type 0
IsPlus bound end other (pos n, e) = (n ≤ bound) × IsEnd end other e
IsPlus bound end other (negsuc n, e) = ⊥

abbrev minus_text : ℕ × ℕ → List ℕ
minus_text p = 45 ∷ number_text p

module _ (bound end other : ℕ) (rest : List ℕ) (some : 1 ≤ bound) (fits : bound < 2 ^ 64) (end_is : is_digit end ≡ false) (other_is : is_digit other ≡ false)
    (C : List ℕ → Type 0) (completed : (z : ℤ) → unsigned_abs z ≤ bound → C (signed_decimal z ++ end ∷ rest)) where
  minus_from : (y : ℤ × ℕ) → IsMinus bound end other y → (x : ℕ × ℕ) × (signed_text y ≡ minus_text x) × InBounds 1 bound end other x × (minus_of x ≡ y)
  minus_from (pos n, e) good = elim good [ ]
  minus_from (negsuc n, e) good =
      let back : suc n - 1 ≡ n = omega arith in
      ((suc n, e), refl, (omega arith, good.0, good.1), ap (λ k. (negsuc k, e)) back)

  plus_from : (y : ℤ × ℕ) → IsPlus bound end other y → (x : ℕ × ℕ) × (signed_text y ≡ number_text x) × InBounds 0 bound end other x × (plus_of x ≡ y)
  plus_from (pos n, e) good = ((n, e), refl, (omega arith, good.0, good.1), refl)
  plus_from (negsuc n, e) good = elim good [ ]

  minus_first : (y : ℤ × ℕ) → IsMinus bound end other y → (more : List ℕ) × (signed_text y ≡ 45 ∷ more)
  minus_first (pos n, e) good = elim good [ ]
  minus_first (negsuc n, e) good = (decimal (suc n) ++ e ∷ [], refl)

  plus_first : (y : ℤ × ℕ) → IsPlus bound end other y → (b : ℕ) × (more : List ℕ) × (signed_text y ≡ b ∷ more) × ((b == 45) ≡ false)
  plus_first (pos n, e) good =
      let f = first_digit n 0 (omega (arith, good.0)) (omega arith) (omega arith) in
      (f.first, f.more ++ e ∷ [], ap (λ (l : List ℕ). l ++ e ∷ []) f.is, ne_eqb f.first 45 (λ is. omega (arith, is, f.low)))
  plus_first (negsuc n, e) good = elim good [ ]

  to_range : (y : ℤ × ℕ) → IsMinus bound end other y ⊎ IsPlus bound end other y → InRange bound end other y
  to_range (pos n, e) (inl bad) = elim bad [ ]
  to_range (pos n, e) (inr good) = good
  to_range (negsuc n, e) (inl good) = good
  to_range (negsuc n, e) (inr bad) = elim bad [ ]

  from_range : (y : ℤ × ℕ) → InRange bound end other y → IsMinus bound end other y ⊎ IsPlus bound end other y
  from_range (pos n, e) good = inr good
  from_range (negsuc n, e) good = inl good

  minus_completed : (m : ℕ) → 1 ≤ m → m ≤ bound → C (45 ∷ (decimal m ++ end ∷ rest))
  minus_completed m least most =
      let back : suc (m - 1) ≡ m = omega arith in
      subst (λ k. C (45 ∷ (decimal k ++ end ∷ rest))) back (completed (negsuc (m - 1)) (omega (arith, back, most)))

  minus_to : (x : ℕ × ℕ) → InBounds 1 bound end other x → (signed_text (minus_of x) ≡ minus_text x) × IsMinus bound end other (minus_of x)
  minus_to x good =
      let back : suc (x.0 - 1) ≡ x.0 = omega (arith, good.0) in
      (ap (λ k. 45 ∷ (decimal k ++ x.1 ∷ [])) back, (omega (arith, back, good.1), good.2))

  pub signed_reads : Reads (InRange bound end other) signed_text C (signed_at bound end other rest)
  unfolding signed_at
  signed_reads =
      let number = number_at 1 bound end other (λ _. rest) in
      let minus : Reads (InBounds 1 bound end other) minus_text C (after_at (45 ∷ []) (49 ∷ end ∷ rest) number) =
      after_reads (InBounds 1 bound end other) number_text (λ text. C (45 ∷ text)) C number (45 ∷ []) (49 ∷ end ∷ rest)
      (number_reads 1 bound end other (λ _. rest) (omega arith) some fits end_is other_is (λ text. C (45 ∷ text)) minus_completed)
      (subst (λ (l : List ℕ). C (45 ∷ (l ++ end ∷ rest))) (decimal_digit 1 (omega arith)) (minus_completed 1 (omega arith) some))
      (λ text good. good) in
      same_reads (λ y. IsMinus bound end other y ⊎ IsPlus bound end other y) signed_text C (signed_at bound end other rest) (InRange bound end other) signed_text C
      (choice_reads (IsMinus bound end other) (IsPlus bound end other) signed_text C 45
      (map_at minus_of (after_at (45 ∷ []) (49 ∷ end ∷ rest) number)) (map_at plus_of (number_at 0 bound end other (λ _. rest)))
      (map_reads (InBounds 1 bound end other) minus_text C (after_at (45 ∷ []) (49 ∷ end ∷ rest) number) (IsMinus bound end other) signed_text minus_of minus minus_to minus_from)
      (map_reads (InBounds 0 bound end other) number_text C (number_at 0 bound end other (λ _. rest)) (IsPlus bound end other) signed_text plus_of
      (number_reads 0 bound end other (λ _. rest) (omega arith) (omega arith) fits end_is other_is C (λ m least most. completed (pos m) most))
      (λ x good. (refl, (good.1, good.2))) plus_from)
      minus_first plus_first)
      (λ y good. (refl, to_range y good)) (λ y good. (refl, from_range y good)) (λ text good. good)
