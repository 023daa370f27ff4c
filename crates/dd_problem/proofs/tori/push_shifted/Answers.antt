use Rattle.dd_formula.specs.{LocalRule.is_near, lemmas.AutomatonLaws.passes_at}
use Rattle.dd_problem.proofs.NearCalls.{moved_more, moved_all}
use Rattle.dd_problem.proofs.tori.push_shifted.Goals as goal

pub shifted-requires-clause-near : goal.shifted-requires-clause-near
shifted-requires-clause-near c = passes_at is_near c.args.cells.now c.loop-cell.cell-index c.cell-item.result c.requires.near c.loop-cell-test.true c.cell-item.is

pub loop-cell-preserved : goal.loop-cell-preserved
loop-cell-preserved c =
    moved_more c.args.by.now c.args.found.now.items c.loop-cell.found.items c.push.new.self.items c.args.cells.now c.loop-cell.cell-index c.cell-item.result c.shifted.result
    c.loop-cell-test.true c.cell-item.is c.shifted.ensures c.loop-cell.invariant c.in_ok-push.ensures.items

pub returns : goal.returns
returns c =
    moved_all c.args.by.now c.args.found.now.items c.loop-cell.found.items c.args.cells.now c.loop-cell.cell-index c.loop-cell-test.false c.loop-cell.invariant
