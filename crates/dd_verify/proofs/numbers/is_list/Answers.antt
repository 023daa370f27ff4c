use Rattle.std.proofs.Common.{◌≤◌, length, rules}
use Rattle.dd_verify.proofs.SmallNumbers.{list_is}
use Rattle.dd_verify.proofs.numbers.is_list.Goals as goal

pub returns : goal.returns
returns c =
    let some : 1 ≤ length c.args.numbers.now = search rules in
    list_is c.args.numbers.now c.are_small.result c.are_small.ensures some
