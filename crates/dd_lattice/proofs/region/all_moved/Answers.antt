use Rattle.std.proofs.Common.{◌≡◌, map, take, sym, refl, ◌∙◌}
use Rattle.std.proofs.lemmas.List.{take_all}
use Rattle.dd_lattice.specs.{Place.moved, lemmas.RangeLaws.outside_if_not_given, lemmas.MoveLaws.moved_region, lemmas.MoveLaws.moved_more}
use Rattle.std.specs.List.{Contains}
use Rattle.dd_lattice.proofs.region.all_moved.Goals as goal

pub returns-in_default-clause-members : goal.returns-in_default-clause-members
returns-in_default-clause-members c =
    let ps = c.args.list.now in
    let p = c.p-item.result in
    let member : Contains ps p = (c.loop-p.p-index, c.loop-p-test.true, sym c.p-item.is) in record {
      at = moved p c.args.by.now;
      member = (p, member, refl);
      outside = outside_if_not_given (moved p c.args.by.now) (sym c.in_default.is ∙ c.shift.ensures);
    }

pub loop-p-preserved : goal.loop-p-preserved
loop-p-preserved c =
    rw c.in_ok-push.ensures.items (moved_more c.args.list.now c.loop-p.members.items c.args.by.now c.p-item.result c.in-Some.there c.loop-p.p-index c.loop-p-test.true c.p-item.is c.loop-p.invariant (sym c.in-Some.is ∙ c.shift.ensures))

pub returns-clause-members : goal.returns-clause-members
returns-clause-members c =
    let ps = c.args.list.now in
    let v = c.args.by.now in
    let whole : take c.loop-p.p-index ps ≡ ps = take_all c.loop-p.p-index ps c.loop-p-test.false in
    let made : c.loop-p.members.items ≡ map (λ p. moved p v) ps = rw whole at c.loop-p.invariant.0 in
    rw made (moved_region ps v c.requires (rw made at c.loop-p.invariant.1))
