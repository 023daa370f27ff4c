use Rattle.std.proofs.Common.{◌<◌, ◌≤◌, sym, refl, length, Ok, Err, ap, arith}
use Rattle.std.proofs.lemmas.Option.{slice_get_read, slice_get_past}
use Rattle.dd_pattern.specs.lemmas.FillingLaws.{search_places}
use Rattle.dd_pattern.proofs.filling.FillingReads.symbol.Goals as goal

pub returns-in-Ok : goal.returns-in-Ok
returns-in-Ok c =
    let e = c.in-Ok.ensures in
    let symbols = c.self.inside.symbols.items in
    let place = search_places c.as_slice.result.now c.args.cell.now (Ok c.in-Ok.place) (rw c.as_slice.ensures.value c.self.invariant.ascending) e.bound e.position in
    let below : c.in-Ok.place < length symbols = omega (arith, ap length c.as_slice.ensures.value, c.self.invariant.as_many) in
    rw (← c.self.view_is, rw c.as_slice.ensures.value at place) (sym (slice_get_read symbols (length symbols) c.in-Ok.place c.index.result.now refl below c.index.ensures))

pub returns-in-Err : goal.returns-in-Err
returns-in-Err c =
    let e = c.in-Err.ensures in
    let cells = c.self.inside.cells.items in
    let symbols = c.self.inside.symbols.items in
    let place = search_places c.as_slice.result.now c.args.cell.now (Err c.in-Err.field-0) (rw c.as_slice.ensures.value c.self.invariant.ascending) e.bound e.position in
    let past : length symbols ≤ length cells = omega (arith, c.self.invariant.as_many) in
    rw (← c.self.view_is, rw c.as_slice.ensures.value at place) (sym (slice_get_past symbols (length cells) past))
