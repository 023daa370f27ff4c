use Rattle.std.proofs.Common.{◌∙◌}
use Rattle.dd_compile.specs.{Wiring.Wiring, lemmas.WiringLaws.found, lemmas.WiringLaws.missing}
use Rattle.dd_compile.proofs.inputs.Inputs.get.Goals as goal

pub returns-in-Ok-clause-value : goal.returns-in-Ok-clause-value
returns-in-Ok-clause-value c =
    let w : Wiring = record { cells = c.self.inside.cells.items; signals = c.self.inside.signals.items } in
    let e = c.in-Ok.ensures in
    rw (← c.self.view_is)
    (found w c.as_slice.result.now c.args.cell.now c.args.symbol c.in-Ok.place c.index.result.now c.copied.result
    c.self.invariant c.as_slice.ensures.value e.bound e.position c.index.ensures (c.copied.ensures ∙ c.get.ensures))

pub returns-in-Err-clause-value : goal.returns-in-Err-clause-value
returns-in-Err-clause-value c =
    let w : Wiring = record { cells = c.self.inside.cells.items; signals = c.self.inside.signals.items } in
    let e = c.in-Err.ensures in
    rw (← c.self.view_is)
    (missing w c.as_slice.result.now c.args.cell.now c.args.symbol c.in-Err.field-0 c.self.invariant c.as_slice.ensures.value e.bound e.position)
