use Rattle.std.proofs.Common.{◌≡◌, true, false, ℤ, ◌≤ℤ◌, refl, ap, arith}
use Rattle.std.proofs.lemmas.{Bool.false≢true, Int.ints}
use Rattle.std.specs.Prelude.{int_lt}
use mir.Syntax.{w32}
use mir.Val.{to_z, of_z}
use Rattle.dd_lattice.specs.Place.{Place, IsCoordinateInRange}
use Rattle.dd_lattice.proofs.bounds.is_at_most.Goals.{then-q-p-via-then-q-p, then-q-p-via-else-q-p+then-q-p-2, then-q-p-via-else-q-p+else-q-p-2+then-q-p-3}
use Rattle.dd_lattice.proofs.bounds.is_at_most.Goals as goal

module _ (p q p' q' : ℤ) (p_near : IsCoordinateInRange p) (q_near : IsCoordinateInRange q) (p_is : p ≡ p') (q_is : q ≡ q') where
  above : int_lt (to_z w32 (of_z w32 q)) (to_z w32 (of_z w32 p)) ≡ true → p' ≤ℤ q' → ⊥
  above h k = omega (arith, ints)

  below : int_lt (to_z w32 (of_z w32 q)) (to_z w32 (of_z w32 p)) ≡ false → p' ≤ℤ q'
  below h = omega (arith, ints)

pub returns-then-q-p : goal.returns-then-q-p
returns-then-q-p c =
    let p = c.p.inside in
    let q = c.q.inside in
    let p' = c.args.p.now in
    let q' = c.args.q.now in (
      λ h. absurd (false≢true h),
      λ h. elim c.then-q-p.branch [
        | then-q-p-via-then-q-p w ↦ absurd (above p.x q.x p'.x q'.x c.p.invariant.0 c.q.invariant.0 (ap (λ (v : Place). v.x) c.p.view_is) (ap (λ (v : Place). v.x) c.q.view_is) w.if-q-p.true h.on_x)
        | then-q-p-via-else-q-p+then-q-p-2 w ↦ absurd (above p.y q.y p'.y q'.y c.p.invariant.1 c.q.invariant.1 (ap (λ (v : Place). v.y) c.p.view_is) (ap (λ (v : Place). v.y) c.q.view_is) w.if-q-p-2.true h.on_y)
        | then-q-p-via-else-q-p+else-q-p-2+then-q-p-3 w ↦ absurd (above p.z q.z p'.z q'.z c.p.invariant.2 c.q.invariant.2 (ap (λ (v : Place). v.z) c.p.view_is) (ap (λ (v : Place). v.z) c.q.view_is) w.if-q-p-3.true h.on_z)
      ],
    )

pub returns : goal.returns
returns c =
    let p = c.p.inside in
    let q = c.q.inside in
    let p' = c.args.p.now in
    let q' = c.args.q.now in (
      λ _. record {
        on_x = below p.x q.x p'.x q'.x c.p.invariant.0 c.q.invariant.0 (ap (λ (v : Place). v.x) c.p.view_is) (ap (λ (v : Place). v.x) c.q.view_is) c.if-q-p.false;
        on_y = below p.y q.y p'.y q'.y c.p.invariant.1 c.q.invariant.1 (ap (λ (v : Place). v.y) c.p.view_is) (ap (λ (v : Place). v.y) c.q.view_is) c.if-q-p-2.false;
        on_z = below p.z q.z p'.z q'.z c.p.invariant.2 c.q.invariant.2 (ap (λ (v : Place). v.z) c.p.view_is) (ap (λ (v : Place). v.z) c.q.view_is) c.if-q-p-3.false;
      },
      λ _. refl,
    )
