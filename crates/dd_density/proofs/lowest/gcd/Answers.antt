use Rattle.std.proofs.{Common.arith, lemmas.Nat.Gcd.IsGcd-from_mod, lemmas.Nat.Gcd.IsGcd-from_zero}
use Rattle.std.specs.Int.{IsGcd}
use Rattle.dd_fraction.specs.lemmas.Divisors.{gcd_positive}
use Rattle.dd_density.proofs.lowest.gcd.Goals as goal

pub loop-y-preserved : goal.loop-y-preserved
loop-y-preserved c = λ g h. c.loop-y.invariant g (IsGcd-from_mod c.loop-y.x c.loop-y.y g h)

pub returns : goal.returns
returns c =
    let is : IsGcd c.args.a c.args.b c.loop-y.x = c.loop-y.invariant c.loop-y.x (IsGcd-from_zero c.loop-y.x c.loop-y.y (omega arith)) in
    record { value = is; above = λ some. gcd_positive c.args.a c.args.b c.loop-y.x is some }
