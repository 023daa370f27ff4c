use Rattle.std.proofs.Common.{Ok, Err, sym}
use Rattle.dd_pattern.specs.lemmas.FillingLaws.{search_places}
use Rattle.dd_numbered.proofs.ranks.rank.Goals as goal

pub returns-in-Ok-clause-value : goal.returns-in-Ok-clause-value
returns-in-Ok-clause-value c =
    let e = c.in-Ok.ensures in
    sym (search_places c.args.cells.now c.args.cell.now (Ok c.in-Ok.place) c.requires e.bound e.position)

pub returns-in-Err-clause-value : goal.returns-in-Err-clause-value
returns-in-Err-clause-value c =
    let e = c.in-Err.ensures in
    sym (search_places c.args.cells.now c.args.cell.now (Err c.in-Err.field-0) c.requires e.bound e.position)
