use Rattle.std.proofs.Common.{◌≡◌, ℕ, ◌*◌, ◌<◌, refl, sym, ap, subst, ◌∙◌, arith, rules, Some}
use Rattle.std.proofs.lemmas.Int.{to_z-of_z}
use Rattle.std.specs.Int.{w16, w32, w64}
use mir.Val.{SFits}
use lib.IntN.{pos, ◌-ℤ◌, ◌*ℤ◌}
use Rattle.dd_fraction.specs.{Exact.Exact, lemmas.Ring.product_above}
use Rattle.dd_fraction.proofs.LessProduct.{small_sizes, small_words, small_less_product, less_product_at, alike_less_product}
use Rattle.dd_fraction.proofs.small.Small.less_product.Goals.{After-from-7, After-from-9, After-from-11}
use Rattle.dd_fraction.proofs.small.Small.less_product.Goals as goal

pub returns-then-den-from : goal.returns-then-den-from
returns-then-den-from c =
    let a : Exact = record { num = c.self.inside.num; den = c.self.inside.den } in
    let q : Exact = record { num = c.factor.inside.num; den = c.factor.inside.den } in
    let b : Exact = record { num = c.other.inside.num; den = c.other.inside.den } in
    let s : SFits w16 c.self.inside.num = search rules in
    let t : SFits w16 c.factor.inside.num = search rules in
    let u : SFits w16 c.other.inside.num = search rules in
    let w = small_words a q b c.self.invariant c.factor.invariant c.other.invariant in
    let s64 : SFits w64 c.self.inside.num = w.own in
    let t32 : SFits w32 c.factor.inside.num = w.factor in
    let u32 : SFits w32 c.other.inside.num = w.other in
    let product : SFits w32 (c.factor.inside.num *ℤ c.other.inside.num) = w.product in
    let wide_product : SFits w64 (c.factor.inside.num *ℤ c.other.inside.num) = w.wide_product in
    let difference : SFits w64 (c.self.inside.num -ℤ c.factor.inside.num *ℤ c.other.inside.num) = w.alike in
    let factor = simp to_z-of_z at c.from.ensures in
    let other = simp to_z-of_z at c.from-2.ensures in
    let own = simp to_z-of_z at c.from-then-den-from.ensures in
    let num = simp (factor, other, to_z-of_z) at c.from-then-den-from-2.ensures in
    let made = simp (own, num, to_z-of_z) at c.reduced_words.ensures in
    let den : c.from-3.result * c.from-4.result ≡ q.den * b.den = λ i. c.from-3.ensures i * c.from-4.ensures i in
    let same : a.den ≡ q.den * b.den = sym c.from-5.ensures ∙ (sym c.if-den-from.true ∙ den) in
    rw (← c.self.view_is, ← c.factor.view_is, ← c.other.view_is)
    (ap (λ (t : Exact). Some t)
    (made ∙ alike_less_product a q b _ _ c.self.invariant.above c.factor.invariant.above c.other.invariant.above
    refl (c.from-then-den-from-3.ensures ∙ (den ∙ sym same)) same)
    ∙ small_less_product a q b c.self.invariant c.factor.invariant c.other.invariant)

-- the cross products
left_is : (c : After-from-7)
    → c.from-6.result *ℤ c.from-7.result ≡ c.self.inside.num *ℤ pos (c.factor.inside.den * c.other.inside.den)
left_is c =
    let s : SFits w16 c.self.inside.num = search rules in
    let own = simp to_z-of_z at c.from-6.ensures in
    let den = c.from-7.ensures ∙ (λ i. pos (c.from-3.ensures i * c.from-4.ensures i)) in
    λ i. own i *ℤ den i

right_is : (c : After-from-9)
    → c.from-8.result *ℤ c.from-9.result ≡ (c.factor.inside.num *ℤ c.other.inside.num) *ℤ pos c.self.inside.den
right_is c =
    let t : SFits w16 c.factor.inside.num = search rules in
    let u : SFits w16 c.other.inside.num = search rules in
    let w = small_words _ _ _ c.self.invariant c.factor.invariant c.other.invariant in
    let t32 : SFits w32 c.factor.inside.num = w.factor in
    let u32 : SFits w32 c.other.inside.num = w.other in
    let product : SFits w32 (c.factor.inside.num *ℤ c.other.inside.num) = w.product in
    let factor = simp to_z-of_z at c.from.ensures in
    let other = simp to_z-of_z at c.from-2.ensures in
    let num = simp (factor, other, to_z-of_z) at c.from-8.ensures in
    λ i. num i *ℤ c.from-9.ensures i

size_is : (c : After-from-11)
    → c.from-10.result * c.from-11.result ≡ c.self.inside.den * (c.factor.inside.den * c.other.inside.den)
size_is c = λ i. c.from-10.ensures i * (c.from-11.ensures ∙ (λ j. c.from-3.ensures j * c.from-4.ensures j)) i

pub overflow_mul-from : goal.overflow_mul-from
overflow_mul-from c =
    let small = small_sizes c.self.inside.den c.factor.inside.den c.other.inside.den
    c.self.invariant.below c.factor.invariant.below c.other.invariant.below in
    rw (size_is c) (omega (arith, small))

pub reduced_words-requires-2 : goal.reduced_words-requires-2
reduced_words-requires-2 c =
    subst (λ (n : ℕ). 0 < n) (sym (size_is c))
    (product_above c.self.inside.den (c.factor.inside.den * c.other.inside.den) c.self.invariant.above
    (product_above c.factor.inside.den c.other.inside.den c.factor.invariant.above c.other.invariant.above))

pub overflow_mul-left : goal.overflow_mul-left
overflow_mul-left c =
    let one : SFits w64 c.from-6.result = search rules in
    let two : SFits w64 c.from-7.result = search rules in
    let w = small_words _ _ _ c.self.invariant c.factor.invariant c.other.invariant in
    simp to_z-of_z (subst (SFits w64) (sym (left_is c)) w.left)

pub overflow_mul-right : goal.overflow_mul-right
overflow_mul-right c =
    let one : SFits w64 c.from-8.result = search rules in
    let two : SFits w64 c.from-9.result = search rules in
    let w = small_words _ _ _ c.self.invariant c.factor.invariant c.other.invariant in
    simp to_z-of_z (subst (SFits w64) (sym (right_is c)) w.right)

difference_is : (c : After-from-9)
    → c.from-6.result *ℤ c.from-7.result -ℤ c.from-8.result *ℤ c.from-9.result
    ≡ c.self.inside.num *ℤ pos (c.factor.inside.den * c.other.inside.den)
    -ℤ (c.factor.inside.num *ℤ c.other.inside.num) *ℤ pos c.self.inside.den
difference_is c = λ i. left_is (goal.at.overflow_mul-right c).After-from-7 i -ℤ right_is c i

pub overflow_sub-left : goal.overflow_sub-left
overflow_sub-left c =
    let one : SFits w64 c.from-6.result = search rules in
    let two : SFits w64 c.from-7.result = search rules in
    let three : SFits w64 c.from-8.result = search rules in
    let four : SFits w64 c.from-9.result = search rules in
    let w = small_words _ _ _ c.self.invariant c.factor.invariant c.other.invariant in
    let left : SFits w64 (c.from-6.result *ℤ c.from-7.result) =
    subst (SFits w64) (sym (left_is (goal.at.overflow_sub-left c).After-from-7)) w.left in
    let right : SFits w64 (c.from-8.result *ℤ c.from-9.result) = subst (SFits w64) (sym (right_is c)) w.right in
    simp to_z-of_z (subst (SFits w64) (sym (difference_is c)) w.difference)

pub returns : goal.returns
returns c =
    let a : Exact = record { num = c.self.inside.num; den = c.self.inside.den } in
    let q : Exact = record { num = c.factor.inside.num; den = c.factor.inside.den } in
    let b : Exact = record { num = c.other.inside.num; den = c.other.inside.den } in
    let last = (goal.at.returns c).After-from-9 in
    let one : SFits w64 c.from-6.result = search rules in
    let two : SFits w64 c.from-7.result = search rules in
    let three : SFits w64 c.from-8.result = search rules in
    let four : SFits w64 c.from-9.result = search rules in
    let w = small_words a q b c.self.invariant c.factor.invariant c.other.invariant in
    let left : SFits w64 (c.from-6.result *ℤ c.from-7.result) =
    subst (SFits w64) (sym (left_is (goal.at.returns c).After-from-7)) w.left in
    let right : SFits w64 (c.from-8.result *ℤ c.from-9.result) = subst (SFits w64) (sym (right_is last)) w.right in
    let difference : SFits w64 (c.from-6.result *ℤ c.from-7.result -ℤ c.from-8.result *ℤ c.from-9.result) =
    subst (SFits w64) (sym (difference_is last)) w.difference in
    let made = simp to_z-of_z at c.reduced_words-2.ensures in
    rw (← c.self.view_is, ← c.factor.view_is, ← c.other.view_is)
    (ap (λ (t : Exact). Some t)
    (made ∙ less_product_at a q b _ _ c.self.invariant.above c.factor.invariant.above c.other.invariant.above
    (difference_is last) (size_is (goal.at.returns c).After-from-11))
    ∙ small_less_product a q b c.self.invariant c.factor.invariant c.other.invariant)
