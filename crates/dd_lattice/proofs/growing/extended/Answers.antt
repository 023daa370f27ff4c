use Rattle.std.proofs.{Common.◌≡◌, Common.pos, Common.inr, Common.ap, Common.◌∙◌, lemmas.Result.err_from_is_err_and}
use Rattle.dd_lattice.specs.{Regions.IsMoved, Regions.IsInEither, listing.Growth.along, listing.Growth.IsExtended}
use Rattle.dd_lattice.proofs.Sums.{steps_forward}
use Rattle.dd_lattice.proofs.GrowthLaws.{fault_weaker, region_same, extended_from_either, either_from_extended}
use Rattle.dd_lattice.proofs.growing.extended.Goals as goal

pub returns-in_err-copy : goal.returns-in_err-copy
returns-in_err-copy c =
    let p = err_from_is_err_and c.from_residual.result c.from_residual.ensures.1 in
    let move = along c.args.axis (pos c.args.by) in
    let is : c.along.result ≡ move = c.along.ensures ∙ ap (along c.args.axis) (steps_forward c.args.by c.requires) in
    rw (p.1, p.2) (fault_weaker (IsMoved c.args.region.now move) (IsExtended c.args.axis (pos c.args.by) c.args.region.now) (λ q h. inr h) c.in_err-copy.field-0.0
    (rw (← is) c.in_err-copy.ensures.members))

pub returns : goal.returns
returns c =
    let ps = c.args.region.now in
    let copy = c.in_ok-copy.copy in
    let move = along c.args.axis (pos c.args.by) in
    let is : c.along.result ≡ move = c.along.ensures ∙ ap (along c.args.axis) (steps_forward c.args.by c.requires) in
    let copied = rw is at c.in_ok-copy.ensures.members in
    region_same (IsInEither ps copy) (IsExtended c.args.axis (pos c.args.by) ps) c.in_ok-whole.whole
    (extended_from_either c.args.axis (pos c.args.by) ps copy copied) (either_from_extended c.args.axis (pos c.args.by) ps copy copied) c.in_ok-whole.ensures
