use Rattle.std.proofs.Common.{◌≡◌, ◌<◌, ◌≤◌, ◌∙◌, length, map, sym, ap, subst, inl, inr, arith}
use Rattle.std.proofs.lemmas.{Result.err_from_is_err_and, List.length-map}
use Rattle.dd_rows.specs.Programs.{first_seen, column_count, most_columns, most_rows}
use Rattle.dd_rows.specs.listing.{Sparse.dense, Sparse.required_rows, Shown.patterns_shown, Shown.IsLargeShown}
use Rattle.dd_rows.proofs.Steps.{on_large_weaker}
use Rattle.dd_rows.proofs.program.program_listed.Goals as goal

pub returns-in_err-patterns-clause-err : goal.returns-in_err-patterns-clause-err
returns-in_err-patterns-clause-err c =
    let v = c.args.views.now in
    let lists = c.args.fillings.now in
    let p = err_from_is_err_and c.from_residual.result c.from_residual.ensures.1 in
    rw (p.1, p.2)
    (on_large_weaker c.in_err-patterns.field-0.0 (most_columns < column_count (length v.givers) (length (patterns_shown v lists)))
    (IsLargeShown v c.args.weights.now c.args.heaviest lists) (λ wide. inl wide) c.in_err-patterns.ensures.err)

pub returns-in_err-rows-clause-err : goal.returns-in_err-rows-clause-err
returns-in_err-rows-clause-err c =
    let v = c.args.views.now in
    let ws = c.args.weights.now in
    let most = c.args.heaviest in
    let lists = c.args.fillings.now in
    let p = err_from_is_err_and c.from_residual-in_err-rows.result c.from_residual-in_err-rows.ensures.1 in
    rw (p.1, p.2)
    (on_large_weaker c.in_err-rows.field-0.0 (most_rows < length (first_seen (required_rows c.in_ok-patterns.patterns v ws most lists))) (IsLargeShown v ws most lists)
    (λ many. inr (subst (λ ps. most_rows < length (first_seen (required_rows ps v ws most lists))) c.in_ok-patterns.ensures.ok many)) c.in_err-rows.ensures.err)

pub returns-clause-ok : goal.returns-clause-ok
returns-clause-ok c =
    let v = c.args.views.now in
    let ps = c.in_ok-patterns.patterns in
    let keys = c.in_ok-rows.rows.keys in
    let dense_are : c.in_ok-dense_rows.field-0 ≡ map (dense (length ps)) keys = c.in_ok-dense_rows.ensures ∙ ap (λ n. map (dense n) keys) c.len.ensures in
    let sizes = ap length dense_are in
    let size = length-map keys (dense (length ps)) in
    let few = c.in_ok-rows.ensures.few in
    record {
      patterns_are = c.in_ok-lists.ensures ∙ c.in_ok-patterns.ensures.ok;
      rows_are =
          dense_are
          ∙ (c.in_ok-rows.ensures.ok ∙ ap (λ qs. first_seen (required_rows qs v c.args.weights.now c.args.heaviest c.args.fillings.now)) c.in_ok-patterns.ensures.ok);
      few_columns = subst (λ qs. column_count (length v.givers) (length qs) ≤ most_columns) (sym c.in_ok-lists.ensures) c.in_ok-patterns.ensures.few;
      few_rows = omega (arith, sizes, size, few);
    }
