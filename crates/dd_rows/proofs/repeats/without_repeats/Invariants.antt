use Rattle.std.proofs.Common.{take}
use Rattle.dd_rows.specs.listing.Repeats.{ShowsSame, HasKnown}
use Rattle.dd_rows.proofs.repeats.without_repeats.Given as goal

abbrev pub invariant-loop-symbols : goal.invariant-loop-symbols
invariant-loop-symbols l = ShowsSame l.views (take l.symbols-index l.fillings) l.shown × HasKnown l.fillings l.shown
