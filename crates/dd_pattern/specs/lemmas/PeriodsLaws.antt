-- Periods are equal if their parts are equal, or if they compare equal.
use Rattle.dd_pattern.specs.{declared.periods.Periods.Periods, Periods.periods_cmp, Periods.periods_volume}
use Rattle.std.proofs.{Common.ℕ, Common.◌≡◌, lemmas.Map.Lookups.exact_unsigned}
use Rattle.dd_values.specs.lemmas.Booleans.{both_equal}
use Rattle.std.specs.{Ordering.ordering_then, Ordering.nat_cmp, declared.cmp.Ordering.TheVariants.Equal}

abbrev pub made_periods : ℕ → ℕ → ℕ → ℕ → Periods
made_periods x y z shear = record { x = x; y = y; z = z; shear = shear }

pub periods_same : (p q : Periods) → p.x ≡ q.x → p.y ≡ q.y → p.z ≡ q.z → p.shear ≡ q.shear → p ≡ q
periods_same p q x y z s = let same : made_periods p.x p.y p.z p.shear ≡ made_periods q.x q.y q.z q.shear = cc in same

-- periods that compare equal are equal
pub periods_equal : (p q : Periods) → periods_cmp p q ≡ Equal → p ≡ q
periods_equal p q h =
    let vx = ordering_then (nat_cmp (periods_volume p) (periods_volume q)) (nat_cmp p.x q.x) in
    let vxy = ordering_then vx (nat_cmp p.y q.y) in
    let vxyz = ordering_then vxy (nat_cmp p.z q.z) in
    let last = both_equal vxyz (nat_cmp p.shear q.shear) h in
    let third = both_equal vxy (nat_cmp p.z q.z) last.0 in
    let second = both_equal vx (nat_cmp p.y q.y) third.0 in
    let first = both_equal (nat_cmp (periods_volume p) (periods_volume q)) (nat_cmp p.x q.x) second.0 in
    periods_same p q (exact_unsigned p.x q.x first.1) (exact_unsigned p.y q.y second.1) (exact_unsigned p.z q.z third.1) (exact_unsigned p.shear q.shear last.1)
