use Rattle.std.proofs.Common.{◌≤◌, length, rules}
use Rattle.dd_verify.proofs.SmallNumbers.{signed_list_is}
use Rattle.dd_verify.proofs.numbers.is_signed_list.Goals as goal

pub returns : goal.returns
returns c =
    let some : 1 ≤ length c.args.numbers.now = search rules in
    signed_list_is c.args.numbers.now c.are_small_signed.result c.are_small_signed.ensures some
