use Rattle.std.proofs.{Common.◌∙◌, Common.rules, lemmas.Int.to_z-of_z}
use Rattle.std.specs.Int.{w128}
use mir.Val.{SFits}
use Rattle.dd_fraction.specs.Checked.{checked_less_product}
use Rattle.dd_fraction.proofs.fraction.Fraction.small_less_product.Goals as goal

pub returns : goal.returns
returns c =
    let one : SFits w128 c.self.inside.num = search rules in
    let two : SFits w128 c.factor.inside.num = search rules in
    let three : SFits w128 c.other.inside.num = search rules in
    let own = simp to_z-of_z at c.in_ok-own.ensures in
    let factor = simp to_z-of_z at c.in_ok-factor.ensures in
    let other = simp to_z-of_z at c.in_ok-other.ensures in
    let a = own ∙ c.self.view_is in
    let q = factor ∙ c.factor.view_is in
    let b = other ∙ c.other.view_is in
    c.less_product.ensures ∙ (λ i. checked_less_product (a i) (q i) (b i))
