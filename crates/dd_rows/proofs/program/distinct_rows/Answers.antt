use Rattle.std.proofs.Common.{◌<◌, ◌∙◌, length, map, sym, ap, subst}
use Rattle.std.proofs.lemmas.{List.Elements.All-nil, Result.err_from_is_err_and}
use Rattle.std.specs.Prelude.{replicate, None}
use Rattle.dd_rows.specs.Programs.{add_row, first_seen, most_rows}
use Rattle.dd_rows.specs.listing.Sparse.{dense, required_row, required_rows, IsSparse, AreSparse}
use Rattle.dd_rows.proofs.Steps.{on_large_weaker}
use Rattle.dd_rows.proofs.SparseLaws.{cap_sparse, exchanges_sparse, rows_begin, first_fits, rows_next, rows_large}
use Rattle.dd_rows.proofs.program.distinct_rows.Goals as goal

pub returns-in_err-add_row-clause-err : goal.returns-in_err-add_row-clause-err
returns-in_err-add_row-clause-err c =
    let ps = c.args.patterns.now in
    let v = c.args.views.now in
    let ws = c.args.weights.now in
    let most = c.args.heaviest in
    let cap = c.in_ok-cap.cap in
    let keys = c.new-rows.result.keys in
    let none = subst (AreSparse (length v.givers) (length ps)) (sym c.new-rows.ensures.empty) (All-nil (IsSparse (length v.givers) (length ps))) in
    let is = c.in_ok-cap.ensures.exchanges ∙ ap (λ n. replicate n None) c.len.ensures in
    let p = err_from_is_err_and c.from_residual-in_err-add_row.result c.from_residual-in_err-add_row.ensures.1 in
    rw (p.1, p.2)
    (on_large_weaker c.in_err-add_row.field-0.0 (most_rows < length (add_row (map (dense (length ps)) keys) (dense (length ps) cap))) (most_rows < length (first_seen (required_rows ps v ws most c.args.fillings.now)))
    (λ many. absurd (first_fits ps v ws most keys cap c.new-rows.ensures.empty many))
    (c.in_err-add_row.ensures.err (length v.givers) (length ps) none (cap_sparse (length v.givers) (length ps) cap is)))

pub loop-symbols-init : goal.loop-symbols-init
loop-symbols-init c =
    let ps = c.args.patterns.now in
    let v = c.args.views.now in
    let ws = c.args.weights.now in
    let cap = c.in_ok-cap.cap in
    let keys = c.new-rows.result.keys in
    let none = subst (AreSparse (length v.givers) (length ps)) (sym c.new-rows.ensures.empty) (All-nil (IsSparse (length v.givers) (length ps))) in
    let is = c.in_ok-cap.ensures.exchanges ∙ ap (λ n. replicate n None) c.len.ensures in
    let with = c.in_ok-add_row.ensures.ok (length v.givers) (length ps) none (cap_sparse (length v.givers) (length ps) cap is) in
    record {
      rows = rows_begin ps v ws c.args.heaviest keys c.add_row.new.rows.keys cap c.new-rows.ensures.empty is c.in_ok-cap.ensures.bound with;
      sparse = with.sparse;
      few = c.in_ok-add_row.ensures.few;
    }

pub returns-in_err-add_row-2-clause-err : goal.returns-in_err-add_row-2-clause-err
returns-in_err-add_row-2-clause-err c =
    let ps = c.args.patterns.now in
    let v = c.args.views.now in
    let ws = c.args.weights.now in
    let most = c.args.heaviest in
    let lists = c.args.fillings.now in
    let d = c.symbols-item.result in
    let row = c.in_ok-row.row in
    let keys = c.loop-symbols.rows.keys in
    let sparse = exchanges_sparse ps v c.as_slice.result.now row c.in_ok-row.ensures.exchanges in
    let stands = c.in_ok-row.ensures.row ∙ ap (required_row ps v ws) c.as_slice.ensures in
    let p = err_from_is_err_and c.from_residual-in_err-add_row-2.result c.from_residual-in_err-add_row-2.ensures.1 in
    rw (p.1, p.2)
    (on_large_weaker c.in_err-add_row-2.field-0.0 (most_rows < length (add_row (map (dense (length ps)) keys) (dense (length ps) row))) (most_rows < length (first_seen (required_rows ps v ws most lists)))
    (rows_large ps v ws most lists c.loop-symbols.symbols-index d keys row c.loop-symbols-test.true c.loop-symbols.invariant.rows c.symbols-item.is stands)
    (c.in_err-add_row-2.ensures.err (length v.givers) (length ps) c.loop-symbols.invariant.sparse sparse))

pub loop-symbols-preserved : goal.loop-symbols-preserved
loop-symbols-preserved c =
    let ps = c.args.patterns.now in
    let v = c.args.views.now in
    let ws = c.args.weights.now in
    let lists = c.args.fillings.now in
    let d = c.symbols-item.result in
    let row = c.in_ok-row.row in
    let keys = c.loop-symbols.rows.keys in
    let sparse = exchanges_sparse ps v c.as_slice.result.now row c.in_ok-row.ensures.exchanges in
    let stands = c.in_ok-row.ensures.row ∙ ap (required_row ps v ws) c.as_slice.ensures in
    let with = c.in_ok-add_row-2.ensures.ok (length v.givers) (length ps) c.loop-symbols.invariant.sparse sparse in
    record {
      rows = rows_next ps v ws c.args.heaviest lists c.loop-symbols.symbols-index d keys c.add_row-in-loop-symbols.new.rows.keys row c.loop-symbols-test.true c.loop-symbols.invariant.rows c.symbols-item.is stands with;
      sparse = with.sparse;
      few = c.in_ok-add_row-2.ensures.few;
    }
