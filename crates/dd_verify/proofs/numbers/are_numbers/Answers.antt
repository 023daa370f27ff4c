use Rattle.dd_verify.proofs.SmallNumbers.{numbers_are}
use Rattle.dd_verify.proofs.numbers.are_numbers.Goals as goal

pub returns : goal.returns
returns c = numbers_are c.args.numbers.now c.are_small.result c.are_small.ensures
