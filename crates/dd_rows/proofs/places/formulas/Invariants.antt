use Rattle.std.proofs.Common.{take}
use Rattle.dd_rows.specs.listing.Formulas.{SayTrue}
use Rattle.dd_rows.proofs.places.formulas.Given as goal

abbrev pub invariant-loop-place : goal.invariant-loop-place
invariant-loop-place l = SayTrue l.rule l.cells (take l.place-index l.places) l.formulas
