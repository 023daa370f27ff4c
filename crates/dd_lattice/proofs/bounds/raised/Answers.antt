use Rattle.std.proofs.Common.{◌≡◌, ℤ, pos, ◌+ℤ◌, ap, ◌∙◌, refl, arith}
use Rattle.std.proofs.lemmas.Int.{ints}
use mir.Syntax.{w32}
use mir.Val.{to_z, of_z}
use Rattle.dd_lattice.specs.Place.{Place, IsCoordinateInRange}
use Rattle.dd_lattice.proofs.bounds.raised.Goals as goal

kept : (z : ℤ) → IsCoordinateInRange z → to_z w32 (of_z w32 z) ≡ z
kept z h = omega (arith, ints)

pub coordinate-requires : goal.coordinate-requires
coordinate-requires c =
    let low = kept c.low.inside.x c.low.invariant.0 in
    let high = kept c.high.inside.x c.high.invariant.0 in
    record {
      low_near = rw low c.low.invariant.0;
      high_near = rw high c.high.invariant.0;
      up_to = rw (low, high, ap (λ (v : Place). v.x) c.low.view_is, ap (λ (v : Place). v.x) c.high.view_is) c.requires.on_x;
    }

pub coordinate-requires-2 : goal.coordinate-requires-2
coordinate-requires-2 c =
    let low = kept c.low.inside.y c.low.invariant.1 in
    let high = kept c.high.inside.y c.high.invariant.1 in
    record {
      low_near = rw low c.low.invariant.1;
      high_near = rw high c.high.invariant.1;
      up_to = rw (low, high, ap (λ (v : Place). v.y) c.low.view_is, ap (λ (v : Place). v.y) c.high.view_is) c.requires.on_y;
    }

pub coordinate-requires-3 : goal.coordinate-requires-3
coordinate-requires-3 c =
    let low = kept c.low.inside.z c.low.invariant.2 in
    let high = kept c.high.inside.z c.high.invariant.2 in
    record {
      low_near = rw low c.low.invariant.2;
      high_near = rw high c.high.invariant.2;
      up_to = rw (low, high, ap (λ (v : Place). v.z) c.low.view_is, ap (λ (v : Place). v.z) c.high.view_is) c.requires.on_z;
    }

pub returns : goal.returns
returns c =
    let x = kept c.coordinate.result c.coordinate.ensures.near ∙ (c.coordinate.ensures.value ∙ ap (λ i. i +ℤ pos c.args.x) (kept c.low.inside.x c.low.invariant.0 ∙ ap (λ (v : Place). v.x) c.low.view_is)) in
    let y = kept c.coordinate-2.result c.coordinate-2.ensures.near ∙ (c.coordinate-2.ensures.value ∙ ap (λ i. i +ℤ pos c.args.y) (kept c.low.inside.y c.low.invariant.1 ∙ ap (λ (v : Place). v.y) c.low.view_is)) in
    let z = kept c.coordinate-3.result c.coordinate-3.ensures.near ∙ (c.coordinate-3.ensures.value ∙ ap (λ i. i +ℤ pos c.args.z) (kept c.low.inside.z c.low.invariant.2 ∙ ap (λ (v : Place). v.z) c.low.view_is)) in
    rw (x, y, z) refl
