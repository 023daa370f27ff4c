use Rattle.std.proofs.Common.{◌<◌, length, arith, ap}
use Rattle.std.proofs.lemmas.List.Sums.{get_or-le-sum_by, sum_by_more_le}
use denote.Param.Weighed.{at_most}
use Rattle.dd_expansion.specs.{Leaves.clause_count, lemmas.Layers.clause_count_and}
use Rattle.dd_expansion.proofs.{expanded.Expanded.TheLaws.the_size, Sizes.counted}
use Rattle.dd_expansion.proofs.counting.+count.Goals as goal

pub count_all-count-clauses-requires : goal.count_all-count-clauses-requires
count_all-count-clauses-requires t c =
    let parts = c.args.parts.now in
    let at = c.loop-part.part-index in
    let within : at < length parts = omega arith in
    let below = at_most the_size parts at c.part-item.result within in
    let size = ap the_size c.part-item.is in
    let same = ap clause_count c.part-item.is in
    (omega (arith, below, size, c.decreases), omega (arith, get_or-le-sum_by clause_count parts at c.part-item.result within, same, clause_count_and parts, c.requires))

pub count_all-overflow_add-clauses : goal.count_all-overflow_add-clauses
count_all-overflow_add-clauses t c =
    let parts = c.args.parts.now in
    let at = c.loop-part.part-index in
    let within : at < length parts = omega arith in
    let same = ap clause_count c.part-item.is in
    omega (arith, sum_by_more_le clause_count parts at c.part-item.result within, same, clause_count_and parts, c.requires, c.loop-part.invariant, c.count-clauses.ensures)

pub count_all-overflow_add-result-2 : goal.count_all-overflow_add-result-2
count_all-overflow_add-result-2 t c =
    let all = counted c.args.parts.now c.loop-part.part-index c.loop-part.clauses (omega arith) c.loop-part.invariant in
    omega (arith, all, c.requires)

pub count_all-returns : goal.count_all-returns
count_all-returns t c = counted c.args.parts.now c.loop-part.part-index c.loop-part.clauses (omega arith) c.loop-part.invariant
