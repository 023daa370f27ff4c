use Rattle.std.proofs.{Common.length, Common.arith, lemmas.List.FromFn.length-range_with_len}
use Rattle.std.specs.List.{range_with_len}
use Rattle.dd_problem.proofs.Inputting.{before_next, numbered_step, numbered_whole, turn_read}
use Rattle.dd_problem.proofs.layouts.inputs_in_turn.Goals as goal

pub add-requires : goal.add-requires
add-requires c =
    before_next c.args.symbols c.args.cells.now (range_with_len 0 (length c.args.cells.now)) c.loop-cell.cell-index c.cell-item.result c.loop-cell.inputs c.requires.ascending
    c.loop-cell-test.true c.cell-item.is c.loop-cell.invariant.inputs

pub loop-cell-preserved : goal.loop-cell-preserved
loop-cell-preserved c = record {
  number = omega arith;
  inputs =
      numbered_step c.args.symbols c.args.cells.now (range_with_len 0 (length c.args.cells.now)) c.loop-cell.cell-index c.loop-cell.number c.cell-item.result
      c.in_ok-symbol_signals.field-0.items c.loop-cell.inputs c.add.new.self c.loop-cell-test.true (length-range_with_len 0 (length c.args.cells.now)) c.cell-item.is
      (turn_read (length c.args.cells.now) c.loop-cell.cell-index c.loop-cell.number c.loop-cell-test.true c.loop-cell.invariant.number) c.in_ok-symbol_signals.ensures
      c.loop-cell.invariant.inputs c.in_ok-add.ensures.ok;
}

pub returns : goal.returns
returns c =
    numbered_whole c.args.symbols c.args.cells.now (range_with_len 0 (length c.args.cells.now)) c.loop-cell.cell-index c.loop-cell.inputs (omega arith)
    (length-range_with_len 0 (length c.args.cells.now)) c.loop-cell.invariant.inputs
