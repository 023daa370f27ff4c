use Rattle.std.proofs.Common.{◌≡◌, ◌-◌, ◌≤◌, refl, arith, w64, pos, negsuc, ◌-ℤ◌, to_z, of_z}
use Rattle.std.proofs.lemmas.Int.{ints}
use Rattle.dd_output.proofs.lists.minus_at.Goals as goal

pub returns : goal.returns
returns c =
    let some : 1 ≤ c.in_ok-number.number = c.in_ok-number.ensures.from in
    let few = c.in_ok-number.ensures.within in
    let value : to_z w64 (of_z w64 (pos 0 -ℤ to_z w64 c.in_ok-number.number)) ≡ negsuc (c.in_ok-number.number - 1) = omega (arith, ints) in
    rw (value, c.in_ok-number.ensures.value) refl
