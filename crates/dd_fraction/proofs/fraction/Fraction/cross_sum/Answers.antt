use Rattle.std.proofs.Common.{◌≡◌, ◌<◌, ◌*◌, ◌^◌, ◌∙◌, ◌⊎◌, inl, inr, ℕ, Option, Some, rules}
use Rattle.std.proofs.lemmas.Int.{to_z-of_z, to_z_pos}
use Rattle.std.specs.Int.{w128}
use lib.IntN.{ℤ, pos, ◌+ℤ◌, ◌*ℤ◌}
use mir.Val.{SFits, to_z, of_z}
use Rattle.dd_fraction.specs.{Exact.Exact, Checked.IsFraction, Checked.bounded}
use Rattle.dd_fraction.specs.lemmas.Results.{bounded_within, sum_none_first, sum_none_second, sum_none_third, sum_none_fourth, sum_some, size_some, size_within}
use Rattle.dd_fraction.specs.lemmas.Ring.{product_above}
use Rattle.dd_fraction.proofs.Quick.{as_lowest, whole_side}
use Rattle.dd_fraction.proofs.fraction.Fraction.cross_sum.Goals.{Joined-then-self-eq1, then-self-eq1-via-then-self-eq1, then-self-eq1-via-else-self-eq1+then-other-eq1}
use Rattle.dd_fraction.proofs.fraction.Fraction.cross_sum.Goals as goal

-- what the contracts of `product` and `sum` say about the cross products and their sum, as statements on whole numbers
cross_is : (o : Option ℤ) (n : ℤ) (d : ℕ) → SFits w128 n → d < 2 ^ 127 → o ≡ bounded (to_z w128 (of_z w128 n) *ℤ to_z w128 d) → o ≡ bounded (n *ℤ pos d)
cross_is o n d fits below is = let den : to_z w128 d ≡ pos d = to_z_pos w128 d below in simp (to_z-of_z, den) at is

sum_is : (o : Option ℤ) (l r : ℤ) → SFits w128 l → SFits w128 r → o ≡ bounded (to_z w128 (of_z w128 l) +ℤ to_z w128 (of_z w128 r)) → o ≡ bounded (l +ℤ r)
sum_is o l r one two is = simp to_z-of_z at is

pub returns-in_err-left : goal.returns-in_err-left
returns-in_err-left c =
    let a : Exact = record { num = c.self.inside.num; den = c.self.inside.den } in
    let b : Exact = record { num = c.other.inside.num; den = c.other.inside.den } in
    let left = cross_is _ a.num b.den (search rules) c.other.invariant.below c.in_err-left.ensures in
    rw (← c.self.view_is, ← c.other.view_is)
    (c.from_residual.ensures ∙ sum_none_first a b left)

pub returns-in_err-right : goal.returns-in_err-right
returns-in_err-right c =
    let a : Exact = record { num = c.self.inside.num; den = c.self.inside.den } in
    let b : Exact = record { num = c.other.inside.num; den = c.other.inside.den } in
    let left = cross_is _ a.num b.den (search rules) c.other.invariant.below c.in_ok-left.ensures in
    let right = cross_is _ b.num a.den (search rules) c.self.invariant.below c.in_err-right.ensures in
    rw (← c.self.view_is, ← c.other.view_is)
    (c.from_residual-in_err-right.ensures ∙ sum_none_second a b c.in_ok-left.left left right)

pub returns-in_err-num : goal.returns-in_err-num
returns-in_err-num c =
    let a : Exact = record { num = c.self.inside.num; den = c.self.inside.den } in
    let b : Exact = record { num = c.other.inside.num; den = c.other.inside.den } in
    let left = cross_is _ a.num b.den (search rules) c.other.invariant.below c.in_ok-left.ensures in
    let right = cross_is _ b.num a.den (search rules) c.self.invariant.below c.in_ok-right.ensures in
    let sum = sum_is _ c.in_ok-left.left c.in_ok-right.right (search rules) (search rules) c.in_err-num.ensures in
    rw (← c.self.view_is, ← c.other.view_is)
    (c.from_residual-in_err-num.ensures ∙ sum_none_third a b c.in_ok-left.left c.in_ok-right.right left right sum)

pub returns-in_err-den : goal.returns-in_err-den
returns-in_err-den c =
    let a : Exact = record { num = c.self.inside.num; den = c.self.inside.den } in
    let b : Exact = record { num = c.other.inside.num; den = c.other.inside.den } in
    let left = cross_is _ a.num b.den (search rules) c.other.invariant.below c.in_ok-left.ensures in
    let right = cross_is _ b.num a.den (search rules) c.self.invariant.below c.in_ok-right.ensures in
    let sum = sum_is _ c.in_ok-left.left c.in_ok-right.right (search rules) (search rules) c.in_ok-num.ensures in
    rw (← c.self.view_is, ← c.other.view_is)
    (c.from_residual-in_err-den.ensures
    ∙ sum_none_fourth a b c.in_ok-left.left c.in_ok-right.right c.in_ok-num.num left right sum c.in_err-den.ensures)

-- one of the two summands is a whole number
module _ (c : Joined-then-self-eq1) where
  abbrev a : Exact
  a = record { num = c.self.inside.num; den = c.self.inside.den }

  abbrev b : Exact
  b = record { num = c.other.inside.num; den = c.other.inside.den }

  left : Some c.in_ok-left.left ≡ bounded (a.num *ℤ pos b.den)
  left = cross_is _ a.num b.den (search rules) c.other.invariant.below c.in_ok-left.ensures

  right : Some c.in_ok-right.right ≡ bounded (b.num *ℤ pos a.den)
  right = cross_is _ b.num a.den (search rules) c.self.invariant.below c.in_ok-right.ensures

  sum : Some c.in_ok-num.num ≡ bounded (c.in_ok-left.left +ℤ c.in_ok-right.right)
  sum = sum_is _ c.in_ok-left.left c.in_ok-right.right (search rules) (search rules) c.in_ok-num.ensures

  side : (c.self.inside.den ≡ 1) ⊎ (c.other.inside.den ≡ 1)
  side = elim c.then-self-eq1.branch [
    | then-self-eq1-via-then-self-eq1 w ↦ inl w.if-self-eq1.true
    | then-self-eq1-via-else-self-eq1+then-other-eq1 w ↦ inr w.if-other-eq1.true
  ]

  coprime : IsFraction (record { num = c.in_ok-num.num; den = c.in_ok-den.den })
  coprime =
      whole_side a b c.in_ok-left.left c.in_ok-right.right c.in_ok-num.num c.in_ok-den.den
      c.self.invariant c.other.invariant left right sum c.in_ok-den.ensures side

pub in_lowest_terms-requires : goal.in_lowest_terms-requires
in_lowest_terms-requires c = let five : SFits w128 c.in_ok-num.num = search rules in simp to_z-of_z (coprime c)

pub returns-then-self-eq1 : goal.returns-then-self-eq1
returns-then-self-eq1 c =
    let joined = (goal.at.returns-then-self-eq1 c).Joined-then-self-eq1 in
    let five : SFits w128 c.in_ok-num.num = search rules in
    let made = simp to_z-of_z at c.in_lowest_terms.ensures in
    rw (← c.self.view_is, ← c.other.view_is)
    (sum_some (a joined) (b joined) c.in_lowest_terms.result c.in_ok-left.left c.in_ok-right.right c.in_ok-num.num c.in_ok-den.den
    c.self.invariant c.other.invariant (left joined) (right joined) (sum joined) c.in_ok-den.ensures
    (as_lowest c.in_lowest_terms.result c.in_ok-num.num c.in_ok-den.den (coprime joined) made))

pub reduced-requires-clause-bounded : goal.reduced-requires-clause-bounded
reduced-requires-clause-bounded c =
    let five : SFits w128 c.in_ok-num.num = search rules in
    let sum = sum_is _ c.in_ok-left.left c.in_ok-right.right (search rules) (search rules) c.in_ok-num.ensures in
    simp to_z-of_z (bounded_within (c.in_ok-left.left +ℤ c.in_ok-right.right) c.in_ok-num.num sum)

pub reduced-requires-clause-above : goal.reduced-requires-clause-above
reduced-requires-clause-above c =
    let w = size_some (c.self.inside.den * c.other.inside.den) c.in_ok-den.den c.in_ok-den.ensures in
    rw (w.1) (product_above c.self.inside.den c.other.inside.den c.self.invariant.above c.other.invariant.above)

pub reduced-requires-clause-below : goal.reduced-requires-clause-below
reduced-requires-clause-below c = size_within (c.self.inside.den * c.other.inside.den) c.in_ok-den.den c.in_ok-den.ensures

pub returns : goal.returns
returns c =
    let a : Exact = record { num = c.self.inside.num; den = c.self.inside.den } in
    let b : Exact = record { num = c.other.inside.num; den = c.other.inside.den } in
    let left = cross_is _ a.num b.den (search rules) c.other.invariant.below c.in_ok-left.ensures in
    let right = cross_is _ b.num a.den (search rules) c.self.invariant.below c.in_ok-right.ensures in
    let sum = sum_is _ c.in_ok-left.left c.in_ok-right.right (search rules) (search rules) c.in_ok-num.ensures in
    let five : SFits w128 c.in_ok-num.num = search rules in
    let reduced = simp to_z-of_z at c.reduced.ensures in
    rw (← c.self.view_is, ← c.other.view_is)
    (sum_some a b c.reduced.result c.in_ok-left.left c.in_ok-right.right c.in_ok-num.num c.in_ok-den.den
    c.self.invariant c.other.invariant left right sum c.in_ok-den.ensures reduced)
