use Rattle.std.proofs.Common.{◌≡◌, ◌<◌, ◌^◌, ℕ, ℤ, pos, to_z, of_z, Some, sym, ap, subst, ◌∙◌, arith, rules}
use Rattle.std.proofs.lemmas.{Int.to_z-of_z, Int.to_z_pos, Bool.eqb-true, Bool.eqb-false}
use Rattle.std.specs.Int.{w128, RustNames.unsigned_abs}
use mir.Val.{SFits}
use Rattle.dd_fraction.specs.{Exact.Exact, Checked.fraction_of}
use Rattle.dd_discharge.proofs.Multiples.{own_reduction, other_reduction}
use Rattle.dd_discharge.proofs.check.is_in_lowest_terms.Goals as goal

pub returns-in-Some : goal.returns-in-Some
returns-in-Some c =
    let small : c.args.numerator < 2 ^ 64 = search rules in
    let little : c.args.denominator < 2 ^ 64 = search rules in
    let fits : SFits w128 c.den.result = search rules in
    let made : Some c.in-Some.reduced ≡ fraction_of (pos c.args.numerator) (pos c.args.denominator) =
    sym c.in-Some.is ∙ (c.new.ensures ∙ (λ i. fraction_of (to_z_pos w128 c.args.numerator (omega (arith, small)) i) (to_z_pos w128 c.args.denominator (omega (arith, little)) i))) in
    let den : c.unsigned_abs.result ≡ c.in-Some.reduced.den = c.unsigned_abs.ensures.value ∙ ap unsigned_abs (to_z-of_z w128 c.den.result fits ∙ c.den.ensures.value) in
    record {
      yes = λ h. own_reduction c.args.numerator c.args.denominator c.in-Some.reduced made (sym den ∙ eqb-true c.unsigned_abs.result c.args.denominator h);
      no = λ h. other_reduction c.args.numerator c.args.denominator c.in-Some.reduced made (λ e. eqb-false c.unsigned_abs.result c.args.denominator h (den ∙ e));
    }
