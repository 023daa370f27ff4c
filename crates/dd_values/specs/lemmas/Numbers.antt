-- Natural numbers and integers.
use Rattle.std.proofs.lemmas.Int.{ints}
use Rattle.std.proofs.Common.{arith, ℤ, ◌+ℤ◌, pos, ◌≡◌, suc, ◌*◌, zero, ℕ, ◌<◌, true, ◌≤ℤ◌, ◌≤◌, ◌^◌, sym, ◌+◌, cond, Bool, false}
use Rattle.std.proofs.{Math.Nat.pow-succ', Math.Nat.pow-zero, lemmas.Nat.mul-add-lt}
use Rattle.std.specs.{Prelude.int_le, Prelude.int_lt, Prelude.◌<ℤ◌, Prelude.◌-ℤ◌, Int.int_min, Int.int_max, Ordering.int_cmp}
use Rattle.std.specs.{Cmp.int_cmp_is, declared.cmp.Ordering.TheVariants.Less, declared.cmp.Ordering.TheVariants.Equal}
use lib.IntN.{◌*ℤ◌}

pub plus_zero : (x : ℤ) → (x +ℤ pos 0) ≡ x
plus_zero x = omega (arith, ints)

pub zero_plus : (x : ℤ) → (pos 0 +ℤ x) ≡ x
zero_plus x = omega (arith, ints)

-- the second factor of a positive product is positive
pub part_above : (q g b : ℕ) → q * g ≡ b → 0 < b → 0 < g
part_above q zero b e p = absurd (omega (arith, e))
part_above q (suc g) b e p = omega arith

pub le_from : (x y : ℤ) → x ≤ℤ y → int_le x y ≡ true
le_from x y h = grind (arith, ints)

pub le_to : (x y : ℤ) → int_le x y ≡ true → x ≤ℤ y
le_to x y h = grind (arith, ints)

pub lt_from : (x y : ℤ) → x <ℤ y → int_lt x y ≡ true
lt_from x y h = grind (arith, ints)

-- ≤ on the integers is transitive
pub along : (x y z : ℤ) → x ≤ℤ y → y ≤ℤ z → x ≤ℤ z
along x y z p q = omega (arith, ints)

pub min_left : (x y : ℤ) → int_min x y ≤ℤ x
min_left x y = grind (arith, ints)

pub min_right : (x y : ℤ) → int_min x y ≤ℤ y
min_right x y = grind (arith, ints)

pub max_left : (x y : ℤ) → x ≤ℤ int_max x y
max_left x y = grind (arith, ints)

pub max_right : (x y : ℤ) → y ≤ℤ int_max x y
max_right x y = grind (arith, ints)

-- a power of a positive number is positive
pub power_some : (m n : ℕ) → 0 < m → 0 < m ^ n
power_some m zero some = let one = pow-zero m in omega (arith, one)
power_some m (suc n) some =
    let power = pow-succ' m n in
    let row = mul-add-lt 0 (m ^ n) 0 m some (power_some m n some) in
    omega (arith, power, row)

pub cmp_less : (x y : ℤ) → x <ℤ y → int_cmp x y ≡ Less
cmp_less x y h = sym (int_cmp_is x y Less h)

pub cmp_equal : (x y : ℤ) → x ≡ y → int_cmp x y ≡ Equal
cmp_equal x y h = sym (int_cmp_is x y Equal h)

-- subtracting b and then adding it changes nothing
pub taken_back : (a b : ℤ) → ((a +ℤ (pos 0 -ℤ b)) +ℤ b) ≡ a
taken_back a b = omega (arith, ints)

pub minus_below : (n : ℕ) → (pos 0 -ℤ pos n) ≤ℤ pos n
minus_below n = omega (arith, ints)

pub times_none : (x : ℤ) → x *ℤ pos 0 ≡ pos 0
times_none x = omega (arith, ints)

pub cond_more : (b : Bool) (n : ℕ) → n ≤ cond b (1 + n) n
cond_more true n = omega arith
cond_more false n = omega arith
