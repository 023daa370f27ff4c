use Rattle.std.proofs.Common.{ℕ, arith, rules, length-take}
use Rattle.dd_outside.specs.lemmas.ByteLaws.{gave}
use Rattle.dd_outside.proofs.memory.give.Goals as goal

pub returns-clause-bytes : goal.returns-clause-bytes
returns-clause-bytes c = gave c.args.bytes.now c.copy_from_slice.new.self _ c.args.at.now c.min-count.result (search rules) (omega (arith, length-take {A = ℕ}, c.copy_from_slice.ensures.len))
