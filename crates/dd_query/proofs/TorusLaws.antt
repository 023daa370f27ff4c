-- If a query has no fault, the periods of its torus are within their bounds. No such period is greater than the limit on the number of cells.
use Rattle.std.proofs.Common.{◌≡◌, ◌≤◌, ◌*◌, ℕ, zero, suc, false, List, [], ◌∷◌, length, refl, subst, arith, slice_index}
use Rattle.std.proofs.lemmas.Bool.{or_parts, ltb-false, eqb-true}
use Rattle.std.proofs.Math.Nat.{le-mul_of_pos_right, mul_comm, mul_assoc, one-le-mul}
use Rattle.std.specs.List.{list_any, flat_map}
use Rattle.dd_pattern.specs.Periods.{periods_of, periods_volume}
use Rattle.dd_query.specs.{Tree.Entry, Tree.Vector, Tree.Context, Parts.torus_periods}
use Rattle.dd_known.specs.{Known.dimension_of, Limits.most_nodes, Limits.most_in_box}
use Rattle.dd_faults.specs.Commands.{product, entry_value, cells_of, is_zero, torus_faults}
use Rattle.dd_faults.specs.lemmas.Nothing.{both_nil, fits, within}
use Rattle.dd_faults.specs.lemmas.Periods.{entry_at, no_entry}
use Rattle.dd_boxes.specs.TorusPeriods.{AreTorusPeriods}

some_at : (bytes : List ℕ) (es : List Entry) (j : ℕ) → list_any (is_zero bytes) es ≡ false → 1 ≤ entry_at bytes es j
some_at bytes [] j h = omega arith
some_at bytes (e ∷ es) zero h = ltb-false (entry_value bytes e) 1 (or_parts _ _ h).0
some_at bytes (e ∷ es) (suc j) h = some_at bytes es j (or_parts _ _ h).1

-- if at most three periods are given, their product equals the product of the periods along all three axes, since the missing ones are 1
volume_is : (bytes : List ℕ) (es : List Entry) → length es ≤ 3 → entry_at bytes es 2 * entry_at bytes es 1 * entry_at bytes es 0 ≡ product bytes es
volume_is bytes [] h = refl
volume_is bytes (e ∷ []) h = grind (arith, mul_comm)
volume_is bytes (e ∷ f ∷ []) h = grind (arith, mul_comm)
volume_is bytes (e ∷ f ∷ g ∷ []) h = grind (arith, mul_comm, mul_assoc)
volume_is bytes (e ∷ f ∷ g ∷ k ∷ es) h = absurd (omega (arith, h))

pub torus_is : (x : Context) (vs : List Vector) → dimension_of x.known ≤ 3 → length x.known.setting.nodes ≤ most_nodes → flat_map (torus_faults x) vs ≡ []
    → AreTorusPeriods (dimension_of x.known) (length x.known.setting.nodes) (periods_of (torus_periods x.text vs) 0)
torus_is x [] small nodes none = record {
  periods = record { x_some = omega arith; y_some = omega arith; z_some = omega arith; y_unused = λ h. refl; z_unused = λ h. refl; shear_small = omega arith; shear_unused = λ h. refl };
  few = omega (arith, nodes);
}
torus_is x (v ∷ vs) small nodes none =
    let each = both_nil _ _ (both_nil (torus_faults x v) _ none).0 in
    let all : length v.entries ≡ dimension_of x.known = eqb-true _ _ (fits _ each.0) in
    let short = or_parts _ _ (within _ _ each.1) in
    record {
      periods = record {
        x_some = some_at x.text v.entries 0 short.0;
        y_some = some_at x.text v.entries 1 short.0;
        z_some = some_at x.text v.entries 2 short.0;
        y_unused = λ h. no_entry x.text v.entries 1 (omega (arith, all, h));
        z_unused = λ h. no_entry x.text v.entries 2 (omega (arith, all, h));
        shear_small = some_at x.text v.entries 0 short.0;
        shear_unused = λ h. refl;
      };
      few = rw (volume_is x.text v.entries (omega (arith, all, small))) (ltb-false most_in_box (cells_of x v) short.1);
    }

-- no period of a torus is greater than the limit on the number of its cells
pub periods_small : (d nodes : ℕ) (along : List ℕ) → 1 ≤ nodes → AreTorusPeriods d nodes (periods_of along 0)
    → (slice_index along 0 ≤ most_in_box) × (slice_index along 1 ≤ most_in_box) × (slice_index along 2 ≤ most_in_box)
periods_small d nodes along some are =
    let p = periods_of along 0 in
    let all : periods_volume p ≤ most_in_box = omega (arith, le-mul_of_pos_right (periods_volume p) some, are.few) in
    let x : p.x ≤ periods_volume p = subst (λ (n : ℕ). p.x ≤ n) (mul_comm p.x (p.z * p.y)) (le-mul_of_pos_right p.x (one-le-mul are.periods.z_some are.periods.y_some)) in
    let sides : p.z * p.y ≤ periods_volume p = le-mul_of_pos_right (p.z * p.y) are.periods.x_some in
    let z : p.z ≤ p.z * p.y = le-mul_of_pos_right p.z are.periods.y_some in
    let y : p.y ≤ p.z * p.y = subst (λ (n : ℕ). p.y ≤ n) (mul_comm p.y p.z) (le-mul_of_pos_right p.y are.periods.z_some) in
    (omega (arith, all, x), omega (arith, all, sides, y), omega (arith, all, sides, z))
