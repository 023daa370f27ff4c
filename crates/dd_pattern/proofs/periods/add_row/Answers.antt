use Rattle.std.proofs.Common.{◌≡◌, arith, subst}
use Rattle.dd_pattern.specs.listing.Adding.{IsAdded, HasShear, HasRow, most_along}
use Rattle.dd_pattern.proofs.PeriodsLaws.{level_more}
use Rattle.dd_pattern.proofs.periods.add_row.Goals as goal

pub loop-z-preserved : goal.loop-z-preserved
loop-z-preserved c =
    level_more (HasShear (most_along c.args.dim 1 c.args.x) c.args.x c.args.y) (λ q. q.z) (λ k q h. h.at_z) _ _ _ c.loop-z.z c.loop-z.invariant c.in_ok-add_shears.ensures

pub returns : goal.returns
returns c =
    let all : c.loop-z.z ≡ c.args.high = omega arith in
    subst (λ n. IsAdded c.args.found.now.keys c.loop-z.found.keys (HasRow c.args.dim n c.args.x c.args.y)) all c.loop-z.invariant
