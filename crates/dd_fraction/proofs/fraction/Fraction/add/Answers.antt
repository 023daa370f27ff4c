use Rattle.std.proofs.{Common.◌≡◌, Common.arith, Common.rules, lemmas.Int.ints}
use Rattle.std.specs.Int.{w128}
use lib.IntN.{pos}
use mir.Val.{SFits}
use borrow.Author.Differences.{same_in}
use Rattle.dd_fraction.specs.Exact.{Exact}
use Rattle.dd_fraction.proofs.Quick.{zero_sum}
use Rattle.dd_fraction.proofs.fraction.Fraction.add.Goals as goal

pub returns-then-self-eq1 : goal.returns-then-self-eq1
returns-then-self-eq1 c =
    let a : Exact = record { num = c.self.inside.num; den = c.self.inside.den } in
    let b : Exact = record { num = c.other.inside.num; den = c.other.inside.den } in
    let fits : SFits w128 c.self.inside.num = search rules in
    let is = c.if-self-eq0.true in
    let none : c.self.inside.num ≡ pos 0 = same_in _ _ (omega (arith, ints, fits, is)) in
    rw (← c.self.view_is, ← c.other.view_is) (zero_sum a b none c.if-self-eq1.true c.other.invariant)
