-- Truth values and comparisons.
use Rattle.std.proofs.Common.{sym, Bool, true, refl, false, ◌≡◌, inl, ◌⊎◌, inr, arith, ℕ, ◌<◌, ◌≤◌, ◌≢◌, None}
use Rattle.std.proofs.lemmas.Bool.{false≢true}
use Rattle.std.specs.Prelude.{◌&&◌, ◌||◌, not, if◌then◌else◌, Option, cond, is_some}
use Rattle.std.specs.{Bool.beq, Bool.nat_lt, Bool.nat_eq, Ordering.ordering_then, Ordering.is_eq}
use Rattle.std.specs.declared.cmp.Ordering.TheVariants.{Equal, Greater, Less}
use Rattle.std.specs.declared.cmp.Ordering.{Ordering}

-- two truth values are equal if each is true when the other is
pub same_bool : (b c : Bool) → (b ≡ true → c ≡ true) → (c ≡ true → b ≡ true) → b ≡ c
same_bool true c to from = sym (to refl)
same_bool false true to from = from refl
same_bool false false to from = refl

pub and_true : (b : Bool) → (b && true) ≡ b
and_true true = refl
and_true false = refl

pub or_false : (b : Bool) → (b || false) ≡ b
or_false true = refl
or_false false = refl

pub not_true : (b : Bool) → not b ≡ true → b ≡ false
not_true true h = sym h
not_true false h = refl

pub not_false : (o : Bool) → not o ≡ false → o ≡ true
not_false true h = refl
not_false false h = absurd (false≢true (sym h))

pub same_from_beq : (a b : Bool) → beq a b ≡ true → a ≡ b
same_from_beq true true h = refl
same_from_beq true false h = sym h
same_from_beq false true h = h
same_from_beq false false h = refl

pub beq_same : (b : Bool) → beq b b ≡ true
beq_same true = refl
beq_same false = refl

pub or_left : (x y : Bool) → x ≡ true → (x || y) ≡ true
or_left true y h = refl
or_left false y h = absurd (cc)

pub or_right : (x y : Bool) → y ≡ true → (x || y) ≡ true
or_right true y h = refl
or_right false y h = h

pub or_cases : (x y : Bool) → (x || y) ≡ true → (x ≡ true) ⊎ (y ≡ true)
or_cases true y h = inl refl
or_cases false y h = inr h

pub or_none : (a b : Bool) → (a || b) ≡ false → (a ≡ false) × (b ≡ false)
or_none true b none = absurd (false≢true (sym none))
or_none false b none = (refl, none)

pub and_assoc : (a b c : Bool) → (a && (b && c)) ≡ ((a && b) && c)
and_assoc true b c = refl
and_assoc false b c = refl

pub or_assoc : (a b c : Bool) → ((a || b) || c) ≡ (a || (b || c))
or_assoc true b c = refl
or_assoc false b c = refl

pub or_comm : (a b : Bool) → (a || b) ≡ (b || a)
or_comm true true = refl
or_comm true false = refl
or_comm false true = refl
or_comm false false = refl

pub and_four : (a b c d : Bool) → ((a && b) && (c && d)) ≡ ((a && c) && (b && d))
and_four true true c d = refl
and_four true false true d = refl
and_four true false false d = refl
and_four false b c d = refl

pub not_not : (b : Bool) → not (not b) ≡ b
not_not true = refl
not_not false = refl

-- a literal has the value b of its variable if its sign is true, and the value not b otherwise; the opposite sign gives the opposite value
pub if_not : (sign b : Bool) → (if not sign then b else not b) ≡ not (if sign then b else not b)
if_not true b = refl
if_not false b = sym (not_not b)

pub and_false : (a : Bool) → (a && false) ≡ false
and_false true = refl
and_false false = refl

pub or_true : (b : Bool) → (b || true) ≡ true
or_true true = refl
or_true false = refl

pub and_both : (a b : Bool) → a ≡ true → b ≡ true → (a && b) ≡ true
and_both a b p q = rw (p, q) refl

pub and_second : (a b : Bool) → b ≡ false → (a && b) ≡ false
and_second true b e = e
and_second false b e = refl

pub and_same : (b : Bool) → (b && b) ≡ b
and_same true = refl
and_same false = refl

-- `ordering_then a b` is b if a is Equal, and a otherwise; it is Equal only if both a and b are
pub both_equal : (a b : Ordering) → ordering_then a b ≡ Equal → (a ≡ Equal) × (b ≡ Equal)
both_equal Less b h = absurd (cc)
both_equal Equal b h = (refl, h)
both_equal Greater b h = absurd (cc)

pub equal_from : (o : Ordering) → is_eq o ≡ true → o ≡ Equal
equal_from Less h = absurd (false≢true h)
equal_from Equal h = refl
equal_from Greater h = absurd (false≢true h)

pub lt_yes : (a i : ℕ) → a < i → nat_lt a i ≡ true
lt_yes a i p = grind (arith, p)

pub lt_no : (v n : ℕ) → n ≤ v → nat_lt v n ≡ false
lt_no v n p = grind (arith, p)

pub eq_other : (v w : ℕ) → v ≢ w → nat_eq v w ≡ false
eq_other v w h = grind arith

-- if o has a value whenever b is true, then "o if b is true, else None" has a value exactly when b is true
pub cond_domain : (b : Bool) (o : Option ℕ) → (b ≡ true → is_some o ≡ true) → is_some (cond b o None) ≡ b
cond_domain true o h = h refl
cond_domain false o h = refl
