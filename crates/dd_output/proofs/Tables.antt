-- A table of good rows, each with a byte of its own, is good.
use Rattle.std.proofs.Common.{◌≡◌, ℕ, List, [], ◌∷◌, Bool, true, false, inl, inr, ◌⊎◌, refl, sym, ap, ◌∙◌}
use Rattle.std.specs.Prelude.{◌==◌, ◌&&◌, ◌||◌, not}
use Rattle.std.proofs.lemmas.Bool.{eqb-true, eq-eqb, ne_eqb, and_parts, false≢true, or_left, or_right, or_cases}
use Rattle.dd_output.specs.reading.Forms.{Form, table}
use Rattle.dd_output.proofs.Forms.{Good, good_same, good_either}

-- one of the rows has this byte
abbrev pub is_among : {A : Type 0} → ℕ → ℕ × Form A → List (ℕ × Form A) → Bool
is_among n row [] = n == row.0
is_among n row (next ∷ rows) = n == row.0 || is_among n next rows

-- no two rows have the same byte
abbrev pub are_apart : {A : Type 0} → ℕ × Form A → List (ℕ × Form A) → Bool
are_apart row [] = true
are_apart row (next ∷ rows) = not (is_among row.0 next rows) && are_apart next rows

-- a fits, and its key is c; in this file, the key of a value is the byte with which its text begins
abbrev pub Keyed : {A : Type 0} → (A → Type 0) → (A → ℕ) → ℕ → A → Type 0
Keyed F key c a = F a × (key a ≡ c)

-- each row is good for the values whose key is the byte of the row
abbrev pub GoodRows : {A : Type 0} → (A → Type 0) → (A → ℕ) → (A → List ℕ) → ℕ × Form A → List (ℕ × Form A) → Type 0
GoodRows F key t row [] = Good (Keyed F key row.0) t row.1
GoodRows F key t row (next ∷ rows) = Good (Keyed F key row.0) t row.1 × GoodRows F key t next rows

not_both : (b : Bool) → not b ≡ true → b ≡ true → ⊥
not_both true is also = absurd (false≢true is)
not_both false is also = absurd (false≢true also)

module _ {A : Type 0} (F : A → Type 0) (key : A → ℕ) (t : A → List ℕ) (first : (a : A) → F a → (more : List ℕ) × (t a ≡ key a ∷ more)) where
  -- a fits, and its key is the byte of one of the rows
  abbrev pub Among : ℕ × Form A → List (ℕ × Form A) → A → Type 0
  Among row rows a = F a × (is_among (key a) row rows ≡ true)

  other_key : (row next : ℕ × Form A) (rows : List (ℕ × Form A)) → not (is_among row.0 next rows) ≡ true → (a : A) → Among next rows a
      → (b : ℕ) × (more : List ℕ) × (t a ≡ b ∷ more) × ((b == row.0) ≡ false)
  other_key row next rows apart a good =
      let f = first a good.0 in
      (key a, f.0, f.1, ne_eqb (key a) row.0 (λ same. not_both (is_among row.0 next rows) apart (ap (λ n. is_among n next rows) (sym same) ∙ good.1)))

  to_among : (row next : ℕ × Form A) (rows : List (ℕ × Form A)) (a : A) → Keyed F key row.0 a ⊎ Among next rows a → Among row (next ∷ rows) a
  to_among row next rows a (inl good) = (good.0, or_left (key a == row.0) (is_among (key a) next rows) (eq-eqb (key a) row.0 good.1))
  to_among row next rows a (inr good) = (good.0, or_right (key a == row.0) (is_among (key a) next rows) good.1)

  from_among : (row next : ℕ × Form A) (rows : List (ℕ × Form A)) (a : A) → Among row (next ∷ rows) a → Keyed F key row.0 a ⊎ Among next rows a
  from_among row next rows a good = elim (or_cases (key a == row.0) (is_among (key a) next rows) good.1) [
    | inl is ↦ inl (good.0, eqb-true (key a) row.0 is)
    | inr more ↦ inr (good.0, more)
  ]

  pub good_table : (row : ℕ × Form A) (rows : List (ℕ × Form A)) → are_apart row rows ≡ true → GoodRows F key t row rows → Good (Among row rows) t (table row rows)
  good_table row [] apart good =
      good_same (Keyed F key row.0) t row.1 (Among row []) t good
      (λ a fits. (refl, (fits.0, eq-eqb (key a) row.0 fits.1))) (λ a fits. (refl, (fits.0, eqb-true (key a) row.0 fits.1)))
  good_table row (next ∷ rows) apart good =
      let parts = and_parts (not (is_among row.0 next rows)) (are_apart next rows) apart in
      good_same (λ a. Keyed F key row.0 a ⊎ Among next rows a) t (table row (next ∷ rows)) (Among row (next ∷ rows)) t
      (good_either (Keyed F key row.0) (Among next rows) t row.0 row.1 (table next rows) good.0 (good_table next rows parts.1 good.1)
      (λ a fits. let f = first a fits.0 in (f.0, f.1 ∙ ap (λ n. n ∷ f.0) fits.1)) (other_key row next rows parts.0))
      (λ a fits. (refl, to_among row next rows a fits)) (λ a fits. (refl, from_among row next rows a fits))
