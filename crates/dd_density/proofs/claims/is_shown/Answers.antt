use Rattle.std.proofs.{Common.ℕ, Common.◌<◌, Common.◌^◌, Common.length, Common.arith, Common.subst, lemmas.Grind.common_steps}
use Rattle.dd_transfer.specs.Certificates.{IsInLowestTerms}
use Rattle.dd_density.proofs.Fractions.{lowest_small}
use Rattle.dd_density.proofs.Shown.{AreFound, found_same, shown_found, small_product, some_product}
use Rattle.dd_density.proofs.claims.is_shown.Goals.{then-density-numerator-via-then-density-numerator, then-density-numerator-via-else-density-numerator+then-density-denominator}
use Rattle.dd_density.proofs.claims.is_shown.Goals as goal

pub overflow_mul-mean : goal.overflow_mul-mean
overflow_mul-mean c =
    let low = lowest_small c.in_lowest_terms-mean.result.numerator c.in_lowest_terms-mean.result.denominator c.in-Some.weight (length c.args.walk.now) c.in-Some.ensures.0.turns c.in_lowest_terms-mean.ensures in
    let few : c.in_lowest_terms-mean.result.denominator < 2 ^ 64 = omega (arith, low.denominator) in
    omega (arith, small_product c.in_lowest_terms-mean.result.denominator c.args.volume few c.requires.few)

pub returns-then-density-numerator : goal.returns-then-density-numerator
returns-then-density-numerator c =
    let g = c.args.graph.now in
    let walk = c.args.walk.now in
    let mn = c.in_lowest_terms-mean.result.numerator in
    let md = c.in_lowest_terms-mean.result.denominator in
    let dn = c.in_lowest_terms-density.result.numerator in
    let dd = c.in_lowest_terms-density.result.denominator in
    let found : AreFound g c.args.volume walk mn md dn dd = record {
      cycle = c.in-Some.ensures.0;
      mean = subst (λ (w : ℕ). IsInLowestTerms mn md w (length walk)) c.in-Some.ensures.1 c.in_lowest_terms-mean.ensures;
      density = c.in_lowest_terms-density.ensures;
      some = some_product md c.args.volume c.in_lowest_terms-mean.ensures.positive c.requires.some;
    } in (
      λ f. absurd (cc),
      λ shown.
          let same = found_same g c.args.volume c.args.numerator c.args.denominator walk c.args.potentials.now mn md dn dd found shown in
          absurd (elim c.then-density-numerator.branch [
            | then-density-numerator-via-then-density-numerator w ↦ w.if-density-numerator.true same.density.numerator
            | then-density-numerator-via-else-density-numerator+then-density-denominator w ↦ w.if-density-denominator.true same.density.denominator
          ]),
    )

pub are_potentials-requires-clause-numerator : goal.are_potentials-requires-clause-numerator
are_potentials-requires-clause-numerator c =
    let low = lowest_small c.in_lowest_terms-mean.result.numerator c.in_lowest_terms-mean.result.denominator c.in-Some.weight (length c.args.walk.now) c.in-Some.ensures.0.turns c.in_lowest_terms-mean.ensures in
    omega (arith, low.numerator, c.in-Some.ensures.2)

pub are_potentials-requires-clause-denominator : goal.are_potentials-requires-clause-denominator
are_potentials-requires-clause-denominator c =
    let low = lowest_small c.in_lowest_terms-mean.result.numerator c.in_lowest_terms-mean.result.denominator c.in-Some.weight (length c.args.walk.now) c.in-Some.ensures.0.turns c.in_lowest_terms-mean.ensures in
    omega (arith, low.denominator)

pub returns : goal.returns
returns c =
    let g = c.args.graph.now in
    let walk = c.args.walk.now in
    let mn = c.in_lowest_terms-mean.result.numerator in
    let md = c.in_lowest_terms-mean.result.denominator in
    let dn = c.in_lowest_terms-density.result.numerator in
    let dd = c.in_lowest_terms-density.result.denominator in
    let found : AreFound g c.args.volume walk mn md dn dd = record {
      cycle = c.in-Some.ensures.0;
      mean = subst (λ (w : ℕ). IsInLowestTerms mn md w (length walk)) c.in-Some.ensures.1 c.in_lowest_terms-mean.ensures;
      density = c.in_lowest_terms-density.ensures;
      some = some_product md c.args.volume c.in_lowest_terms-mean.ensures.positive c.requires.some;
    } in
    shown_found g c.args.volume c.args.numerator c.args.denominator walk c.args.potentials.now mn md dn dd c.are_potentials.result found
    (omega (arith, c.if-density-numerator.false)) (omega (arith, c.if-density-denominator.false)) c.are_potentials.ensures

pub returns-in_default : goal.returns-in_default
returns-in_default c = grind (arith, common_steps)
