use Rattle.std.proofs.{Common.ap, Common.arith, lemmas.List.take_all}
use Rattle.std.specs.List.{sum_by}
use Rattle.dd_formula.proofs.CaseCounts.{size, by_size, size_more}
use Rattle.dd_formula.proofs.by_cases.instances_at.Goals.{then-sum-le-MOST_INSTANCES+in_ok-size, else-sum-le-MOST_INSTANCES}
use Rattle.dd_formula.proofs.by_cases.instances_at.Goals as goal

pub loop-formula-preserved : goal.loop-formula-preserved
loop-formula-preserved c =
    let more = size_more c.args.topology.now c.args.sets.now c.args.cases.now c.loop-formula.formula-index c.loop-formula-item.result c.loop-formula-test.true c.loop-formula-item.is c.args.node in
    elim c.if-sum-le-MOST_INSTANCES.branch [
      | then-sum-le-MOST_INSTANCES+in_ok-size w ↦ omega (arith, more, w.in_ok-size.ensures)
      | else-sum-le-MOST_INSTANCES w ↦ omega (arith, more)
    ]

pub returns : goal.returns
returns c =
    let g = c.args.topology.now in
    let s = c.args.sets.now in
    omega (arith, by_size g s c.args.cases.now c.args.node, ap (sum_by (size g s c.args.node)) (take_all c.loop-formula.formula-index c.args.cases.now c.loop-formula-test.false))
