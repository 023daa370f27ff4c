use Rattle.std.proofs.Common.{arith}
use Rattle.std.proofs.lemmas.Int.{ints}
use Rattle.dd_transfer.proofs.Stands.{least_bounds}
use Rattle.dd_transfer.proofs.standing.stand.Goals as goal

pub overflow_sub-result : goal.overflow_sub-result
overflow_sub-result c =
    let b = least_bounds c.args.rule.now c.least_read-least.ensures.kept in
    let is = c.least_read-least.ensures.value in
    omega (arith, ints, b.0, b.1, is)

pub returns : goal.returns
returns c =
    let b = least_bounds c.args.rule.now c.least_read-least.ensures.kept in
    let is = c.least_read-least.ensures.value in
    record { value = omega (arith, ints, b.0, b.1, is); some = omega (arith, ints, b.0, b.1, is); near = omega (arith, ints, b.0, b.1, is) }
