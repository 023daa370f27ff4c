use Rattle.std.proofs.{Common.◌≡◌, Common.ℕ, Common.arith, Common.refl, Common.◌*◌, Common.◌<◌, Common.◌^◌, Common.◌≤◌, lemmas.Int.ints}
use Rattle.std.proofs.Math.Nat.{mul-le-mul}
use Rattle.std.specs.Prelude.{pos, ◌-ℤ◌, ◌≤ℤ◌}
use Rattle.dd_meancycle.proofs.confirming.is_small_rise.Goals as goal

bound : (l w : ℕ) → l < 2 ^ 64 → w < 2 ^ 32 → l * w < 2 ^ 96
bound l w a b = let c : l * w ≤ 18446744073709551615 * 4294967295 = mul-le-mul {n₁ = l} {m₁ = w} {n₂ = 18446744073709551615} {m₂ = 4294967295} (omega arith) (omega arith) in omega arith

pub returns-then-rise-most : goal.returns-then-rise-most
returns-then-rise-most c =
    let b = bound c.args.length c.args.weight c.ranges.length.fits c.ranges.weight.fits in
    (λ f. absurd (cc), λ h. absurd (omega (arith, ints, c.if-rise-most.true)))

pub returns : goal.returns
returns c =
    let b = bound c.args.length c.args.weight c.ranges.length.fits c.ranges.weight.fits in
    (λ _. omega (arith, ints, c.if-rise-most.false), λ _. refl)
