use Rattle.std.proofs.{Common.ap, Common.◌∙◌, Common.arith, lemmas.Grind.common_steps, lemmas.Bool.and_parts}
use Rattle.std.specs.Prelude.{is_some}
use Rattle.dd_lattice.specs.{Place.is_in_range, Place.moved, Cells.shifted}
use Rattle.dd_compile.specs.{Wiring.signals_of, placing.Placed.is_there}
use Rattle.dd_compile.proofs.TemplateLaws.{test_at}
use Rattle.dd_compile.proofs.templates.signals_there.Goals as goal

pub signals_near-requires-clause-inside : goal.signals_near-requires-clause-inside
signals_near-requires-clause-inside c =
    let test = is_there c.args.inputs.now c.args.at.now in
    let d = c.cell-item.result in
    let here = ap test c.cell-item.is ∙ test_at test c.args.cells.now c.loop-cell.cell-index d c.loop-cell-test.true c.requires in
    (and_parts (is_in_range (moved d.position c.args.at.now)) (is_some (signals_of c.args.inputs.now (shifted c.args.at.now d))) here).0

pub signals_near-requires-clause-there : goal.signals_near-requires-clause-there
signals_near-requires-clause-there c =
    let test = is_there c.args.inputs.now c.args.at.now in
    let d = c.cell-item.result in
    let here = ap test c.cell-item.is ∙ test_at test c.args.cells.now c.loop-cell.cell-index d c.loop-cell-test.true c.requires in
    (and_parts (is_in_range (moved d.position c.args.at.now)) (is_some (signals_of c.args.inputs.now (shifted c.args.at.now d))) here).1

pub loop-cell-preserved : goal.loop-cell-preserved
loop-cell-preserved c = grind (arith, common_steps)

pub returns : goal.returns
returns c = grind (arith, common_steps)
