use Rattle.std.proofs.Common.{arith, ap, subst}
use Rattle.dd_pattern.specs.Tile.{IsTile, IsPeriodic}
use Rattle.dd_pattern.specs.lemmas.TileSizes.{Sizes, sizes_of, place_below, index_below}
use Rattle.dd_pattern.proofs.periodic.Periodic.index.Goals as goal

pub entry-place-requires : goal.entry-place-requires
entry-place-requires c =
    let t = c.args.self.now in
    let kept : IsPeriodic t = subst IsPeriodic c.self.view_is c.self.invariant in
    let ok : IsTile t = kept.tile in
    let sizes : Sizes t = sizes_of t kept in
    let below = place_below t.dimension t.periods ok.periods c.args.cell.now in
    let b = c.base-base.ensures in
    rw (c.entry-row.ensures, b.x, b.y, b.z, ap (λ t. t.periods.x) c.self.view_is, ap (λ t. t.periods.y) c.self.view_is) (omega arith)

pub entry-requires : goal.entry-requires
entry-requires c =
    let t = c.args.self.now in
    let kept : IsPeriodic t = subst IsPeriodic c.self.view_is c.self.invariant in
    let ok : IsTile t = kept.tile in
    let below = index_below t ok c.args.cell.now c.requires in
    let b = c.base-base.ensures in
    let small = kept.small in
    rw (c.entry-place.ensures, c.entry-row.ensures, b.x, b.y, b.z, ap (λ t. t.periods.x) c.self.view_is, ap (λ t. t.periods.y) c.self.view_is, ap (λ t. t.nodes) c.self.view_is) (omega arith)

pub returns-clause-within : goal.returns-clause-within
returns-clause-within c =
    let t = c.args.self.now in
    let kept : IsPeriodic t = subst IsPeriodic c.self.view_is c.self.invariant in
    let ok : IsTile t = kept.tile in
    let below = index_below t ok c.args.cell.now c.requires in
    let b = c.base-base.ensures in
    rw (c.entry.ensures, c.entry-place.ensures, c.entry-row.ensures, b.x, b.y, b.z, ap (λ t. t.periods.x) c.self.view_is, ap (λ t. t.periods.y) c.self.view_is, ap (λ t. t.nodes) c.self.view_is) below
