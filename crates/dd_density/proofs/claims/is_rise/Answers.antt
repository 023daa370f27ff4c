use Rattle.std.proofs.{Common.ℕ, Common.arith, Common.refl, Common.◌*◌, Common.◌<◌, Common.◌^◌, Common.◌≤◌, lemmas.Grind.common_steps}
use Rattle.std.proofs.{lemmas.Int.ints, Math.Nat.mul-le-mul}
use Rattle.dd_density.proofs.claims.is_rise.Goals as goal

bound : (l w : ℕ) → l < 2 ^ 64 → w ≤ 2 ^ 25 → l * w < 2 ^ 96
bound l w a b = let c : l * w ≤ 18446744073709551615 * 33554432 = mul-le-mul {n₁ = l} {m₁ = w} {n₂ = 18446744073709551615} {m₂ = 33554432} (omega arith) (omega arith) in omega arith

pub returns-then-rise-most : goal.returns-then-rise-most
returns-then-rise-most c =
    let b = bound c.args.mean.denominator c.args.weight c.requires.denominator c.requires.weight in
    (λ f. absurd (cc), λ h. absurd (omega (arith, ints, c.if-rise-most.true)))

pub returns : goal.returns
returns c =
    let b = bound c.args.mean.denominator c.args.weight c.requires.denominator c.requires.weight in
    (λ _. omega (arith, ints, c.if-rise-most.false), λ _. refl)

pub overflow_sub-most : goal.overflow_sub-most
overflow_sub-most c = grind (arith, common_steps)
