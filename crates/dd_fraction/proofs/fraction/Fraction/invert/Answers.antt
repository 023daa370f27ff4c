use Rattle.std.proofs.Common.{◌≡◌, ℕ, ◌<◌, ◌^◌, ◌∙◌, sym, ap, arith, rules}
use Rattle.std.proofs.lemmas.Int.{to_z-of_z, to_z_pos, ints}
use Rattle.std.specs.Int.{w128, RustNames.unsigned_abs}
use lib.IntN.{pos, ◌-ℤ◌}
use mir.Val.{SFits, to_z, of_z}
use Rattle.dd_fraction.specs.{Exact.Exact, lemmas.Results.inverted, lemmas.Results.size_above}
use Rattle.dd_fraction.proofs.fraction.Fraction.invert.Goals.{then-self-lt0, else-self-lt0}
use Rattle.dd_fraction.proofs.fraction.Fraction.invert.Goals as goal

negated_size : (d : ℕ) → d < 2 ^ 127 → unsigned_abs (to_z w128 (of_z w128 (pos 0 -ℤ to_z w128 d))) ≡ d
negated_size d p = omega (arith, ints)

pub invariant_of-result : goal.invariant_of-result
invariant_of-result c =
    let den = c.self.inside.den in
    let a : Exact = record { num = c.self.inside.num; den = den } in
    let fits : SFits w128 c.self.inside.num = search rules in
    let below = c.self.invariant.below in
    let size = simp to_z-of_z at c.unsigned_abs.ensures.value in
    let some : 0 < c.unsigned_abs.result =
    rw (size) (size_above c.self.inside.num (λ e. c.requires (ap (λ (t : Exact). t.num) (sym c.self.view_is) ∙ e))) in
    inverted a _ c.unsigned_abs.result c.self.invariant some size
    (elim c.if-self-lt0.branch [
      | then-self-lt0 w ↦ ap unsigned_abs w.result-is ∙ negated_size den below
      | else-self-lt0 w ↦ ap unsigned_abs (w.result-is ∙ to_z_pos w128 den below)
    ])
