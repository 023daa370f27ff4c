use Rattle.std.proofs.Common.{◌≡◌, arith, subst}
use Rattle.dd_pattern.specs.listing.Adding.{IsAdded, HasShear, most_along}
use Rattle.dd_pattern.proofs.PeriodsLaws.{shear_more}
use Rattle.dd_pattern.proofs.periods.add_shears.Goals as goal

pub loop-shear-preserved : goal.loop-shear-preserved
loop-shear-preserved c = shear_more _ _ _ c.loop-shear.shear c.args.x c.args.y c.args.z c.loop-shear.invariant c.in_ok-insert.ensures.keys

pub returns : goal.returns
returns c =
    let all : c.loop-shear.shear ≡ most_along c.args.dim 1 c.args.x = let e = c.most_along-shear-end.ensures in omega (arith, e) in
    subst (λ n. IsAdded c.args.found.now.keys c.loop-shear.found.keys (HasShear n c.args.x c.args.y c.args.z)) all c.loop-shear.invariant
