use Rattle.std.proofs.Common.{◌≡◌, ◌≤◌, ◌*◌, pos, unsigned_abs, ◌-ℤ◌, ℕ, ℤ, w32, w64, to_z, of_z, arith}
use Rattle.std.proofs.{lemmas.Grind.common_steps, Math.Nat.mul-le-mul}
use Rattle.std.proofs.lemmas.Int.{ints, to_z-of_z, unsigned_abs-mul, fits_signed_from_abs}
use Rattle.std.specs.Prelude.{◌*ℤ◌}
use Rattle.dd_lattice.specs.Place.{IsCoordinateInRange}
use Rattle.dd_pattern.proofs.periods.unsheared.Goals as goal

product_small : (k : ℤ) (q : ℕ) → unsigned_abs k ≤ 1048577 → q ≤ 65536 → unsigned_abs (k *ℤ pos q) ≤ 1048577 * 65536
product_small k q near small = rw (unsigned_abs-mul k (pos q)) (mul-le-mul near small)

pub returns : goal.returns
returns c =
    let x = c.args.x in
    let k = c.args.times in
    let q = c.args.shear in
    let near : IsCoordinateInRange x = c.requires.near in
    let small = product_small k q c.requires.times c.requires.small in
    let own_x : to_z w64 (of_z w64 (to_z w32 (of_z w32 x))) ≡ x = omega (arith, ints, near.0, near.1) in
    let own_k : to_z w64 (of_z w64 (to_z w32 (of_z w32 k))) ≡ k = omega (arith, ints, c.requires.times) in
    let own_q : to_z w64 q ≡ pos q = omega (arith, ints, c.requires.small) in
    let own_product : to_z w64 (of_z w64 (k *ℤ pos q)) ≡ k *ℤ pos q = to_z-of_z w64 _ (fits_signed_from_abs w64 _ (omega (arith, small))) in
    let own : to_z w64 (of_z w64 (x -ℤ k *ℤ pos q)) ≡ x -ℤ k *ℤ pos q = to_z-of_z w64 _ (fits_signed_from_abs w64 _ (omega (arith, ints, small, near.0, near.1))) in
    rw (own_x, own_k, own_q, own_product) own

pub overflow_sub-result : goal.overflow_sub-result
overflow_sub-result c = grind (arith, common_steps)

pub overflow_mul-result : goal.overflow_mul-result
overflow_mul-result c = grind (arith, common_steps)
