use Rattle.std.proofs.{Common.◌^◌, Common.map, lemmas.List.length-map}
use Rattle.dd_problem.specs.pushing.Near.{number_at}
use Rattle.dd_problem.proofs.Inputting.{before_next, numbered_step, number_few, number_read}
use Rattle.dd_problem.proofs.tori.inputs_by_number.Goals as goal

pub symbol_signals-requires : goal.symbol_signals-requires
symbol_signals-requires c =
    number_few c.args.numbers.now c.args.symbols c.loop-cell.cell-index (2 ^ 24) c.symbol_at-number.result c.args.cells.now c.cell-item.result c.requires.few c.loop-cell-test.true
    c.cell-item.is c.symbol_at-number.ensures

pub add-requires : goal.add-requires
add-requires c =
    before_next c.args.symbols c.args.cells.now (map (number_at c.args.numbers.now) c.args.cells.now) c.loop-cell.cell-index c.cell-item.result c.loop-cell.inputs c.requires.ascending
    c.loop-cell-test.true c.cell-item.is c.loop-cell.invariant

pub loop-cell-preserved : goal.loop-cell-preserved
loop-cell-preserved c =
    numbered_step c.args.symbols c.args.cells.now (map (number_at c.args.numbers.now) c.args.cells.now) c.loop-cell.cell-index c.symbol_at-number.result c.cell-item.result
    c.in_ok-symbol_signals.field-0.items c.loop-cell.inputs c.add.new.self c.loop-cell-test.true (length-map c.args.cells.now (number_at c.args.numbers.now)) c.cell-item.is
    (number_read c.args.numbers.now c.loop-cell.cell-index c.symbol_at-number.result c.args.cells.now c.cell-item.result c.loop-cell-test.true c.cell-item.is c.symbol_at-number.ensures)
    c.in_ok-symbol_signals.ensures c.loop-cell.invariant c.in_ok-add.ensures.ok
