use Rattle.dd_compile.proofs.OwnInputs.{turn_cells, turn_end, turn_step}
use Rattle.std.proofs.Common.{arith, refl}
use Rattle.dd_compile.proofs.templates.own_inputs.Goals as goal
use Rattle.dd_lattice.specs.lemmas.InOrderLaws.{turn_after}

pub add-requires : goal.add-requires
add-requires c = turn_after c.args.cells.now c.loop-cell.cell-index c.cell-item.result c.loop-cell.inputs.cells c.requires.ascending c.loop-cell-test.true c.cell-item.is c.loop-cell.invariant.cells

pub loop-cell-preserved : goal.loop-cell-preserved
loop-cell-preserved c = record {
  variables = omega (arith, c.loop-cell.invariant.variables);
  cells =
      turn_cells c.loop-cell.cell-index c.args.cells.now c.cell-item.result c.in_ok-fresh.field-0.items c.loop-cell.inputs c.add.new.self c.loop-cell-test.true c.cell-item.is
      c.loop-cell.invariant.cells c.in_ok-add.ensures.ok;
  signals =
      turn_step c.args.symbols c.loop-cell.variables _ c.loop-cell.cell-index c.args.cells.now c.cell-item.result c.in_ok-fresh.field-0.items c.loop-cell.inputs c.add.new.self
      c.loop-cell-test.true c.cell-item.is c.in_ok-fresh.ensures refl c.loop-cell.invariant.signals c.in_ok-add.ensures.ok;
}

pub returns : goal.returns
returns c =
    turn_end c.args.symbols c.loop-cell.variables c.loop-cell.cell-index c.args.cells.now c.loop-cell.inputs (omega arith) c.loop-cell.invariant.cells c.loop-cell.invariant.signals
