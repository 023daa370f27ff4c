use Rattle.std.proofs.{Common.ap, Common.sym, lemmas.Option.slice_get-get_or, lemmas.Option.slice_get_past}
use Rattle.dd_expansion.specs.Truth.{is_symbol}
use Rattle.dd_numbered.proofs.truth.is_there.Goals as goal

pub returns-then-number-symbols : goal.returns-then-number-symbols
returns-then-number-symbols c = sym (ap (is_symbol c.args.symbol) (slice_get-get_or c.args.symbols.now c.args.number 0 c.if-number-symbols.true))

pub returns-else-number-symbols : goal.returns-else-number-symbols
returns-else-number-symbols c = sym (ap (is_symbol c.args.symbol) (slice_get_past c.args.symbols.now c.args.number c.if-number-symbols.false))
