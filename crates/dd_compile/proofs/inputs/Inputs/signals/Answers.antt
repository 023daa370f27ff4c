use Rattle.std.proofs.Common.{ap, sym, ◌∙◌, Some}
use Rattle.dd_compile.specs.{Wiring.Wiring, lemmas.WiringLaws.found_list, lemmas.WiringLaws.missing_list}
use Rattle.dd_compile.proofs.inputs.Inputs.signals.Goals as goal

pub returns-in-Ok : goal.returns-in-Ok
returns-in-Ok c =
    let w : Wiring = record { cells = c.self.inside.cells.items; signals = c.self.inside.signals.items } in
    let e = c.in-Ok.ensures in
    let list = found_list w c.as_slice.result.now c.args.cell.now c.in-Ok.place c.index.result.now c.self.invariant c.as_slice.ensures.value e.bound e.position c.index.ensures in
    rw (← c.self.view_is) (ap (λ ss. Some ss) c.as_slice-in-Ok.ensures ∙ sym list)

pub returns-in-Err : goal.returns-in-Err
returns-in-Err c =
    let w : Wiring = record { cells = c.self.inside.cells.items; signals = c.self.inside.signals.items } in
    let e = c.in-Err.ensures in
    rw (← c.self.view_is) (sym (missing_list w c.as_slice.result.now c.args.cell.now c.in-Err.field-0 c.self.invariant c.as_slice.ensures.value e.bound e.position))
