use Rattle.std.proofs.Common.{◌≡◌, ℕ, ◌+◌, ◌-◌, true, ap, subst, arith}
use Rattle.dd_derivation.specs.Derivations.{has_variable}
use Rattle.dd_trail.specs.Trails.{falses}
use Rattle.dd_trail.proofs.trail.Trail.find_free.Goals as goal

pub returns : goal.returns
returns c = λ v a b.
    let n : c.self.inside.variables ≡ c.args.self.now.variables = ap (λ t. t.variables) c.self.view_is in
    let e : v - 1 + 1 ≡ v = omega arith in
    subst (λ (k : ℕ). has_variable k (falses c.args.self.now.entries) ≡ true) e (c.loop-i.invariant (v - 1) (omega arith))
