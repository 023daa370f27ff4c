use Rattle.std.proofs.{Common.ap, Common.sym, lemmas.Option.unwrap_or-slice_get, lemmas.Option.slice_get_past}
use Rattle.std.specs.Prelude.{unwrap_or}
use Rattle.dd_rows.proofs.repeats.symbol_at.Goals as goal

pub returns-then-number-symbols : goal.returns-then-number-symbols
returns-then-number-symbols c = sym (unwrap_or-slice_get c.args.symbols.now c.args.number 0)

pub returns-else-number-symbols : goal.returns-else-number-symbols
returns-else-number-symbols c = sym (ap (λ o. unwrap_or o 0) (slice_get_past c.args.symbols.now c.args.number c.if-number-symbols.false))
