use Rattle.std.proofs.Common.{◌<◌, ◌++◌, length, sym, ◌∙◌, ap, get_or}
use Rattle.std.proofs.lemmas.Result.{err_from_is_err_and}
use Rattle.std.specs.List.{flat_map}
use Rattle.dd_rows.specs.{Fillings.most_fillings, listing.Levels.extended, listing.Formulas.are_all_true}
use Rattle.dd_rows.proofs.Steps.{on_large_weaker, flat_map_large}
use Rattle.dd_rows.proofs.search.next_level.Goals as goal

pub returns-in_err-extend-clause-err : goal.returns-in_err-extend-clause-err
returns-in_err-extend-clause-err c =
    let f = extended c.args.rule.now (are_all_true c.args.formulas.now) c.args.node in
    let level = c.args.level.now in
    let i = c.loop-symbols.symbols-index in
    let at = c.as_slice.ensures ∙ (c.symbols-item.is ∙ ap (get_or level i) (sym c.as_slice.ensures)) in
    let p = err_from_is_err_and c.from_residual.result c.from_residual.ensures.1 in
    rw (p.1, p.2)
    (on_large_weaker c.in_err-extend.field-0.0 (most_fillings < length (c.loop-symbols.next ++ f c.as_slice.result.now)) (most_fillings < length (flat_map f level))
    (flat_map_large f level i most_fillings c.as_slice.result.now c.loop-symbols.next c.loop-symbols-test.true c.loop-symbols.invariant.0 at)
    c.in_err-extend.ensures.err)
