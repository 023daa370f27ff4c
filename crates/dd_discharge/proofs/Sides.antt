-- The numbers that the tests of a claimed bound compare.
use Rattle.std.proofs.Common.{◌≡◌, ℕ, ◌+◌, ◌*◌, ◌<◌, ◌≤◌, ◌^◌, List, length, slice_index_or, true, false, ap, ◌∙◌, arith}
use Rattle.std.proofs.{Math.Nat.mul-le-mul_right, lemmas.Int.ints}
use lib.IntN.{ℤ, pos, ◌*ℤ◌}
use lib.Signed.{lt_z, ◌<ℤ◌, ◌≤ℤ◌}
use mir.Val.{SFits}
use Rattle.std.specs.Int.{w128}
use Rattle.dd_rows.specs.declared.rows.Row.{Row}
use Rattle.dd_discharge.specs.Amounts.{total_below, row_in, coefficient_in, column_value}

pub side_is : (rows : List Row) (columns : ℕ) (held : ℤ) (amounts : List ℕ) (k : ℕ) (cs : List ℤ) → cs ≡ (row_in rows k).coefficients → length (row_in rows k).coefficients ≡ columns
    → total_below (λ j. slice_index_or cs j (pos 0) *ℤ column_value held amounts j) (length cs) ≡ total_below (λ j. coefficient_in rows k j *ℤ column_value held amounts j) columns
side_is rows columns held amounts k cs e size =
    ap (λ (ds : List ℤ). total_below (λ j. slice_index_or ds j (pos 0) *ℤ column_value held amounts j) (length ds)) e
    ∙ ap (total_below (λ j. coefficient_in rows k j *ℤ column_value held amounts j)) size

pub limit_small : (c b : ℕ) → c < 2 ^ 64 → b ≤ 4000 → c * b < 2 ^ 80
limit_small c b p q = let up = mul-le-mul_right c q in let turned = two b c in omega (arith, p, up, turned)
  where
    two : (b c : ℕ) → b * c ≡ c * b
    two b c = omega arith

pub limit_fits : (c b : ℕ) → c < 2 ^ 64 → b ≤ 4000 → SFits w128 (pos (c * b))
limit_fits c b p q = let low = limit_small c b p q in omega (arith, ints, low)

pub lt_true : (x y : ℤ) → lt_z x y ≡ true → x <ℤ y
lt_true x y h = grind (arith, ints)

pub lt_false : (x y : ℤ) → lt_z x y ≡ false → y ≤ℤ x
lt_false x y h = grind (arith, ints)
