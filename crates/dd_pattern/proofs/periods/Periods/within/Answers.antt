use Rattle.std.proofs.{Common.◌≡◌, Common.[], Common.sym, Common.arith, Common.subst, lemmas.Result.IfOk-weaker}
use Rattle.dd_pattern.specs.{Periods.AreAllWithin, listing.Adding.IsAdded, listing.Adding.HasPlane, listing.Adding.HasBox}
use Rattle.dd_pattern.proofs.PeriodsLaws.{level_more, all_within}
use Rattle.dd_pattern.proofs.periods.Periods.within.Goals as goal

pub loop-x-preserved : goal.loop-x-preserved
loop-x-preserved c =
    level_more (HasPlane c.args.dim c.args.most) (λ q. q.x) (λ k q h. h.rest.rest.at_x) [] c.loop-x.found.keys c.add_plane.new.found.keys c.loop-x.x c.loop-x.invariant c.in_ok-add_plane.ensures

pub returns-clause-members : goal.returns-clause-members
returns-clause-members c =
    let all : c.loop-x.x ≡ c.args.most = omega arith in
    let added = subst (λ k. IsAdded [] c.loop-x.found.keys (HasBox c.args.dim c.args.most k)) all c.loop-x.invariant in
    let members : AreAllWithin c.args.dim c.args.most c.loop-x.found.keys = all_within c.args.dim c.args.most c.loop-x.found.keys added in
    IfOk-weaker c.listed.result (λ v. v.items ≡ c.loop-x.found.keys) (λ v. AreAllWithin c.args.dim c.args.most v.items)
    (λ v is. subst (AreAllWithin c.args.dim c.args.most) (sym is) members) c.listed.ensures.list
