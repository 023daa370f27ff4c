-- The laws of exact fractions. They are those of an ordered field, if fractions with the same lowest terms count as equal. Sums and products are
-- always in lowest terms.
use Rattle.std.specs.Prelude.{◌≡◌, ◌≢◌, ◌⊎◌}
use Rattle.std.specs.declared.cmp.Ordering.TheVariants.{Less, Equal, Greater}
use lib.IntN.{pos}
use Rattle.dd_fraction.specs.Exact.{Exact, low, plus, minus, times, inverse, whole_of}
use Rattle.dd_fraction.specs.Order.{IsAtMost, IsBelow, IsNonneg, IsPositive, exact_cmp}

pub record AreSumLaws : Type 0 where
  pub comm : (a b : Exact) → plus a b ≡ plus b a
  pub assoc : (a b c : Exact) → plus (plus a b) c ≡ plus a (plus b c)
  pub zero_left : (a : Exact) → plus (whole_of (pos 0)) a ≡ low a
  pub zero_right : (a : Exact) → plus a (whole_of (pos 0)) ≡ low a
  pub cancel : (a b c : Exact) → plus a c ≡ plus b c → low a ≡ low b
  pub low_left : (a b : Exact) → plus (low a) b ≡ plus a b
  pub low_right : (a b : Exact) → plus a (low b) ≡ plus a b
  pub lowest : (a b : Exact) → low (plus a b) ≡ plus a b

pub record AreProductLaws : Type 0 where
  pub comm : (a b : Exact) → times a b ≡ times b a
  pub assoc : (a b c : Exact) → times (times a b) c ≡ times a (times b c)
  pub over_sum : (a b c : Exact) → times a (plus b c) ≡ plus (times a b) (times a c)
  pub sum_over : (a b c : Exact) → times (plus a b) c ≡ plus (times a c) (times b c)
  pub one_left : (a : Exact) → times (whole_of (pos 1)) a ≡ low a
  pub one_right : (a : Exact) → times a (whole_of (pos 1)) ≡ low a
  pub zero_left : (a : Exact) → times (whole_of (pos 0)) a ≡ whole_of (pos 0)
  pub zero_right : (a : Exact) → times a (whole_of (pos 0)) ≡ whole_of (pos 0)
  pub inverse : (a : Exact) → a.num ≢ pos 0 → times a (inverse a) ≡ whole_of (pos 1)
  pub low_left : (a b : Exact) → times (low a) b ≡ times a b
  pub low_right : (a b : Exact) → times a (low b) ≡ times a b
  pub lowest : (a b : Exact) → low (times a b) ≡ times a b

pub record AreOppositeLaws : Type 0 where
  pub twice : (a : Exact) → minus (minus a) ≡ a
  pub sum : (a : Exact) → plus a (minus a) ≡ whole_of (pos 0)
  pub of_sum : (a b : Exact) → minus (plus a b) ≡ plus (minus a) (minus b)
  pub of_product_left : (a b : Exact) → minus (times a b) ≡ times (minus a) b
  pub of_product_right : (a b : Exact) → minus (times a b) ≡ times a (minus b)

pub record AreOrderLaws : Type 0 where
  pub reflexive : (a : Exact) → IsAtMost a a
  pub transitive : (a b c : Exact) → IsAtMost a b → IsAtMost b c → IsAtMost a c
  pub antisymmetric : (a b : Exact) → IsAtMost a b → IsAtMost b a → low a ≡ low b
  pub total : (a b : Exact) → IsAtMost a b ⊎ IsAtMost b a
  pub below : (a b : Exact) → IsBelow a b → IsAtMost a b
  pub below_or_not : (a b : Exact) → IsBelow a b ⊎ IsAtMost b a
  pub not_both : (a b : Exact) → IsBelow a b → IsAtMost b a → ⊥
  pub below_left : (a b c : Exact) → IsBelow a b → IsAtMost b c → IsBelow a c
  pub below_right : (a b c : Exact) → IsAtMost a b → IsBelow b c → IsBelow a c
  pub less : (a b : Exact) → IsBelow a b → exact_cmp a b ≡ Less
  pub greater : (a b : Exact) → IsBelow b a → exact_cmp a b ≡ Greater
  pub equal : (a b : Exact) → low a ≡ low b → exact_cmp a b ≡ Equal

-- the order of sums, products and opposites, and the signs of differences, sums, products and inverses
pub record AreOrderedFieldLaws : Type 0 where
  pub sums : (a b c d : Exact) → IsAtMost a b → IsAtMost c d → IsAtMost (plus a c) (plus b d)
  pub products : (a b c : Exact) → IsNonneg c → IsAtMost a b → IsAtMost (times a c) (times b c)
  pub opposites : (a b : Exact) → IsAtMost a b → IsAtMost (minus b) (minus a)
  pub gap : (a b : Exact) → IsAtMost a b → IsNonneg (plus b (minus a))
  pub from_gap : (a b : Exact) → IsNonneg (plus b (minus a)) → IsAtMost a b
  pub nonneg : (a : Exact) → IsNonneg a → IsAtMost (whole_of (pos 0)) a
  pub from_nonneg : (a : Exact) → IsAtMost (whole_of (pos 0)) a → IsNonneg a
  pub nonneg_sums : (a b : Exact) → IsNonneg a → IsNonneg b → IsNonneg (plus a b)
  pub nonneg_products : (a b : Exact) → IsNonneg a → IsNonneg b → IsNonneg (times a b)
  pub positive_sums : (a b : Exact) → IsPositive a → IsNonneg b → IsPositive (plus a b)
  pub positive_products : (a b : Exact) → IsPositive a → IsPositive b → IsPositive (times a b)
  pub positive_inverses : (a : Exact) → IsPositive a → IsPositive (inverse a)
