use Rattle.std.proofs.Common.{◌≡◌, arith, subst}
use Rattle.dd_pattern.specs.listing.Adding.{IsAdded, IsPeriodUpTo, HasRow, most_along}
use Rattle.dd_pattern.proofs.PeriodsLaws.{level_more}
use Rattle.dd_pattern.proofs.periods.add_plane.Goals as goal

pub loop-y-preserved : goal.loop-y-preserved
loop-y-preserved c =
    level_more (HasRow c.args.dim c.most_along-high.result c.args.x) (λ q. q.y) (λ k q h. h.rest.at_y) _ _ _ c.loop-y.y c.loop-y.invariant c.in_ok-add_row.ensures

pub returns : goal.returns
returns c =
    let all : c.loop-y.y ≡ most_along c.args.dim 1 c.args.most = let e = c.most_along-y-end.ensures in omega (arith, e) in
    let h = subst (λ n. IsAdded c.args.found.now.keys c.loop-y.found.keys (IsPeriodUpTo (HasRow c.args.dim c.most_along-high.result c.args.x) (λ q. q.y) n)) all c.loop-y.invariant in
    subst (λ high. IsAdded c.args.found.now.keys c.loop-y.found.keys (IsPeriodUpTo (HasRow c.args.dim high c.args.x) (λ q. q.y) (most_along c.args.dim 1 c.args.most))) c.most_along-high.ensures h
