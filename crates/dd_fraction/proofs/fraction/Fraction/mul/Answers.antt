use Rattle.std.proofs.Common.{◌≡◌, ◌*◌, ap, ◌∙◌, Option, Some, rules}
use Rattle.std.proofs.lemmas.Int.{to_z-of_z}
use Rattle.std.specs.Int.{w128, RustNames.unsigned_abs}
use lib.IntN.{ℤ, ◌*ℤ◌}
use mir.Val.{SFits, to_z, of_z}
use Rattle.dd_fraction.specs.{Exact.Exact, Checked.IsFraction, Checked.bounded}
use Rattle.dd_fraction.specs.lemmas.Results.{bounded_some, bounded_within, product_some, size_some, size_within}
use Rattle.dd_fraction.specs.lemmas.Ring.{product_above}
use Rattle.dd_fraction.proofs.Quick.{as_lowest, unit_left, unit_right}
use Rattle.dd_fraction.proofs.fraction.Fraction.mul.Goals.{Joined-then-is_unit, then-is_unit-via-then-is_unit, then-is_unit-via-else-is_unit+then-is_unit-2}
use Rattle.dd_fraction.proofs.fraction.Fraction.mul.Goals as goal

-- what the contract of `product` says about the product of the numerators, as a statement on whole numbers
num_is : (o : Option ℤ) (n m : ℤ) → SFits w128 n → SFits w128 m → o ≡ bounded (to_z w128 (of_z w128 n) *ℤ to_z w128 (of_z w128 m)) → o ≡ bounded (n *ℤ m)
num_is o n m one two is = simp to_z-of_z at is

-- one factor is 1 or -1
module _ (c : Joined-then-is_unit) where
  abbrev a : Exact
  a = record { num = c.self.inside.num; den = c.self.inside.den }

  abbrev b : Exact
  b = record { num = c.other.inside.num; den = c.other.inside.den }

  num : Some c.in_ok-num.num ≡ bounded (a.num *ℤ b.num)
  num = num_is _ a.num b.num (search rules) (search rules) c.in_ok-num.ensures

  coprime : IsFraction (record { num = c.in_ok-num.num; den = c.in_ok-den.den })
  coprime =
      let n = bounded_some (a.num *ℤ b.num) c.in_ok-num.num num in
      let d = size_some (a.den * b.den) c.in_ok-den.den c.in_ok-den.ensures in
      elim c.then-is_unit.branch [
        | then-is_unit-via-then-is_unit w ↦
            let unit = c.is_unit.ensures.0 w.if-is_unit.true in
            unit_left a b c.in_ok-num.num c.in_ok-den.den
            (ap (λ (t : Exact). t.den) c.self.view_is ∙ unit.0)
            (ap (λ (t : Exact). unsigned_abs t.num) c.self.view_is ∙ unit.1)
            c.other.invariant n.1 d.1
        | then-is_unit-via-else-is_unit+then-is_unit-2 w ↦
            let unit = w.is_unit-else-is_unit.ensures.0 w.if-is_unit-2.true in
            unit_right a b c.in_ok-num.num c.in_ok-den.den
            (ap (λ (t : Exact). t.den) c.other.view_is ∙ unit.0)
            (ap (λ (t : Exact). unsigned_abs t.num) c.other.view_is ∙ unit.1)
            c.self.invariant n.1 d.1
      ]

pub in_lowest_terms-requires : goal.in_lowest_terms-requires
in_lowest_terms-requires c = let three : SFits w128 c.in_ok-num.num = search rules in simp to_z-of_z (coprime c)

pub returns-then-is_unit : goal.returns-then-is_unit
returns-then-is_unit c =
    let joined = (goal.at.returns-then-is_unit c).Joined-then-is_unit in
    let three : SFits w128 c.in_ok-num.num = search rules in
    let made = simp to_z-of_z at c.in_lowest_terms.ensures in
    rw (← c.self.view_is, ← c.other.view_is)
    (product_some (a joined) (b joined) c.in_lowest_terms.result c.in_ok-num.num c.in_ok-den.den
    c.self.invariant c.other.invariant (num joined) c.in_ok-den.ensures
    (as_lowest c.in_lowest_terms.result c.in_ok-num.num c.in_ok-den.den (coprime joined) made))

pub reduced-requires-clause-bounded : goal.reduced-requires-clause-bounded
reduced-requires-clause-bounded c =
    let three : SFits w128 c.in_ok-num.num = search rules in
    let num = num_is _ c.self.inside.num c.other.inside.num (search rules) (search rules) c.in_ok-num.ensures in
    simp to_z-of_z (bounded_within (c.self.inside.num *ℤ c.other.inside.num) c.in_ok-num.num num)

pub reduced-requires-clause-above : goal.reduced-requires-clause-above
reduced-requires-clause-above c =
    let w = size_some (c.self.inside.den * c.other.inside.den) c.in_ok-den.den c.in_ok-den.ensures in
    rw (w.1) (product_above c.self.inside.den c.other.inside.den c.self.invariant.above c.other.invariant.above)

pub reduced-requires-clause-below : goal.reduced-requires-clause-below
reduced-requires-clause-below c = size_within (c.self.inside.den * c.other.inside.den) c.in_ok-den.den c.in_ok-den.ensures

pub returns : goal.returns
returns c =
    let a : Exact = record { num = c.self.inside.num; den = c.self.inside.den } in
    let b : Exact = record { num = c.other.inside.num; den = c.other.inside.den } in
    let num = num_is _ a.num b.num (search rules) (search rules) c.in_ok-num.ensures in
    let three : SFits w128 c.in_ok-num.num = search rules in
    let reduced = simp to_z-of_z at c.reduced.ensures in
    rw (← c.self.view_is, ← c.other.view_is)
    (product_some a b c.reduced.result c.in_ok-num.num c.in_ok-den.den
    c.self.invariant c.other.invariant num c.in_ok-den.ensures reduced)
