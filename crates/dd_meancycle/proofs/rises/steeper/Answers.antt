use Rattle.std.proofs.Common.{◌≡◌, ℕ, ◌+◌, ◌-◌, ◌*◌, ◌<◌, ◌≤◌, arith, refl, inl, inr, Some}
use Rattle.dd_meancycle.specs.table.Rises.{IsSteeper}
use Rattle.dd_meancycle.proofs.Steps.{split_product}
use Rattle.dd_meancycle.proofs.rises.steeper.Goals as goal

pub returns-then-best-run : goal.returns-then-best-run
returns-then-best-run c =
    let e = split_product c.args.end c.in-Some.before c.args.run (omega arith) in
    rw c.in-Some.is (omega arith, inr (omega arith, refl, c.if-best-run.true))

pub returns-else-best-run : goal.returns-else-best-run
returns-else-best-run c =
    let e = split_product c.args.end c.in-Some.before c.args.best.length (omega arith) in
    rw c.in-Some.is (omega arith, inl refl)
