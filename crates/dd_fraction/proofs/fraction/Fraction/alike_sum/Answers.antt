use Rattle.std.proofs.{Common.◌≡◌, Common.◌<◌, Common.◌^◌, Common.◌∙◌, Common.ap, Common.arith, Common.rules, lemmas.Int.to_z-of_z}
use Rattle.std.specs.Int.{w128}
use lib.IntN.{ℤ}
use mir.Val.{SFits}
use Rattle.dd_fraction.specs.Exact.{Exact, lowest}
use Rattle.dd_fraction.proofs.Quick.{alike_sum}
use Rattle.dd_fraction.proofs.fraction.Fraction.alike_sum.Goals as goal

pub returns : goal.returns
returns c =
    let a : Exact = record { num = c.self.inside.num; den = c.self.inside.den } in
    let b : Exact = record { num = c.other.inside.num; den = c.other.inside.den } in
    let one : SFits w128 c.self.inside.num = search rules in
    let two : SFits w128 c.other.inside.num = search rules in
    let three : SFits w128 c.in_ok-num.num = search rules in
    let value = simp to_z-of_z at c.in_ok-num.ensures.value in
    let left = simp to_z-of_z at c.in_ok-num.ensures.left in
    let right = simp to_z-of_z at c.in_ok-num.ensures.right in
    let reduced = simp to_z-of_z at c.reduced.ensures in
    let same : c.self.inside.den ≡ c.other.inside.den = omega arith in
    let small : c.self.inside.den < 2 ^ 63 = omega arith in
    rw (← c.self.view_is, ← c.other.view_is)
    (alike_sum a b c.reduced.result c.self.invariant same small left right
    (reduced ∙ ap (λ (n : ℤ). lowest n c.self.inside.den) value))
