use Rattle.std.proofs.Common.{◌<◌, length, arith, ap}
use Rattle.std.proofs.lemmas.List.Sums.{get_or-le-sum_by, sum_by_more_le}
use denote.Param.Weighed.{at_most}
use Rattle.dd_expansion.specs.{Leaves.instances, lemmas.Layers.instances_and}
use Rattle.dd_expansion.proofs.{expanded.Expanded.TheLaws.the_size, Sizes.joined}
use Rattle.dd_expansion.proofs.expanded.+instances.Goals as goal

pub joined_instances-instances-total-requires : goal.joined_instances-instances-total-requires
joined_instances-instances-total-requires t c =
    let parts = c.args.parts.now in
    let at = c.loop-part.part-index in
    let within : at < length parts = omega arith in
    let below = at_most the_size parts at c.part-item.result within in
    let size = ap the_size c.part-item.is in
    let same = ap instances c.part-item.is in
    (omega (arith, below, size, c.decreases), omega (arith, get_or-le-sum_by instances parts at c.part-item.result within, same, instances_and parts, c.requires))

pub joined_instances-overflow_add-total : goal.joined_instances-overflow_add-total
joined_instances-overflow_add-total t c =
    let parts = c.args.parts.now in
    let at = c.loop-part.part-index in
    let within : at < length parts = omega arith in
    let same = ap instances c.part-item.is in
    omega (arith, sum_by_more_le instances parts at c.part-item.result within, same, instances_and parts, c.requires, c.loop-part.invariant, c.instances-total.ensures)

pub joined_instances-returns : goal.joined_instances-returns
joined_instances-returns t c = joined c.args.parts.now c.loop-part.part-index c.loop-part.total (omega arith) c.loop-part.invariant
