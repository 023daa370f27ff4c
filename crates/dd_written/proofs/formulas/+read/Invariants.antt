use Rattle.std.proofs.Common.{◌≡◌, ◌-◌, ◌+◌, ◌*◌, length}
use Rattle.dd_written.specs.Formulas.{join_rank}
use Rattle.dd_written.specs.reading.{Formulas.more_at, Formulas.part_at, Formulas.unary_at, Readers.with_front}
use Rattle.dd_written.proofs.formulas.+read.Given as goal

abbrev pub invariant-chain-loop : goal.invariant-chain-loop
invariant-chain-loop l =
    with_front l.parts (more_at l.join (part_at l.join (unary_at l.budget)) (length l.initial.rest - l.counter) l.rest)
    ≡ with_front l.initial.parts (more_at l.join (part_at l.join (unary_at l.budget)) (length l.initial.rest) l.initial.rest)

abbrev pub decreases-unary : goal.decreases-unary
decreases-unary l = 20 * l.budget

abbrev pub decreases-part : goal.decreases-part
decreases-part l = 20 * l.budget + 4 * join_rank l.join - 3

abbrev pub decreases-chain : goal.decreases-chain
decreases-chain l = 20 * l.budget + 4 * join_rank l.join

abbrev pub decreases-quantified : goal.decreases-quantified
decreases-quantified l = 20 * l.budget + 18

abbrev pub decreases-nested : goal.decreases-nested
decreases-nested l = 20 * l.budget + 19
