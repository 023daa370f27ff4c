use Rattle.std.proofs.Common.{◌≡◌, ◌*◌, ◌∙◌, length, ap, subst, arith}
use Rattle.std.proofs.lemmas.Result.{IfOk-weaker, IfErr-weaker, err_from_is_err_and}
use Rattle.dd_expansion.specs.Limits.{greatest}
use Rattle.dd_rows.specs.{Faults.OnLarge, Fillings.fillings, Fillings.HasFewFillings}
use Rattle.dd_rows.specs.{Programs.IsProgramOf, Programs.IsLargeProgram, Programs.IsRowsFault, listing.Views.AreViews}
use Rattle.dd_rows.specs.listing.Shown.{IsProgramShown, IsLargeShown}
use Rattle.dd_rows.proofs.Steps.{on_large_weaker}
use Rattle.dd_rows.proofs.ProgramLaws.{memory_fault, fillings_known, centre_size, program_from, large_from}
use Rattle.dd_rows.proofs.program.program_of.Goals as goal

pub returns-in_err-cells-clause-err : goal.returns-in_err-cells-clause-err
returns-in_err-cells-clause-err c =
    let p = err_from_is_err_and c.from_residual.result c.from_residual.ensures.1 in
    rw (p.1, p.2)
    (memory_fault c.in_err-cells.field-0.0 (IsLargeProgram c.args.rule.now c.args.weights.now c.args.radius c.args.margin c.args.vectors.now) c.in_err-cells.ensures.memory)

pub returns-in_err-views-clause-err : goal.returns-in_err-views-clause-err
returns-in_err-views-clause-err c =
    let p = err_from_is_err_and c.from_residual-in_err-views.result c.from_residual-in_err-views.ensures.1 in
    rw (p.1, p.2)
    (memory_fault c.in_err-views.field-0.0 (IsLargeProgram c.args.rule.now c.args.weights.now c.args.radius c.args.margin c.args.vectors.now) c.in_err-views.ensures.memory)

pub program_shown-requires-clause-known : goal.program_shown-requires-clause-known
program_shown-requires-clause-known c =
    let x = c.args.rule.now in
    let cells = c.in_ok-cells.cells in
    fillings_known x cells c.as_slice-3.result.now (length c.args.weights.now) (c.as_slice-3.ensures ∙ (c.in_ok-fillings.ensures.ok ∙ ap (fillings x) c.as_slice.ensures)) c.requires.weights.as_many

pub program_shown-requires-clause-nodes : goal.program_shown-requires-clause-nodes
program_shown-requires-clause-nodes c =
    let x = c.args.rule.now in
    let vs = c.args.vectors.now in
    let cells = c.in_ok-cells.cells in
    let v = c.in_ok-views.views in
    let lists = c.as_slice-3.result.now in
    let are : AreViews x c.args.radius vs cells v = subst (λ cs. AreViews x c.args.radius vs cs v) c.as_slice-2.ensures c.in_ok-views.ensures.views in
    let listed : lists ≡ fillings x cells = c.as_slice-3.ensures ∙ (c.in_ok-fillings.ensures.ok ∙ ap (fillings x) c.as_slice.ensures) in
    let size = centre_size x c.args.radius c.args.margin vs cells v are lists listed in
    let most = c.nodes.ensures.kept.nodes.1 in
    omega (arith, size, most)

pub returns : goal.returns
returns c =
    let x = c.args.rule.now in
    let vs = c.args.vectors.now in
    let ws = c.args.weights.now in
    let cells = c.in_ok-cells.cells in
    let v = c.in_ok-views.views in
    let lists = c.as_slice-3.result.now in
    let most = c.from.result * c.from-2.result in
    let are : AreViews x c.args.radius vs cells v = subst (λ cs. AreViews x c.args.radius vs cs v) c.as_slice-2.ensures c.in_ok-views.ensures.views in
    let listed : lists ≡ fillings x cells = c.as_slice-3.ensures ∙ (c.in_ok-fillings.ensures.ok ∙ ap (fillings x) c.as_slice.ensures) in
    let heaviest : most ≡ x.nodes * greatest ws =
    ap (λ n. n * c.from-2.result) (c.from.ensures ∙ c.nodes.ensures.value) ∙ ap (λ n. x.nodes * n) (c.from-2.ensures ∙ c.greatest_weight.ensures) in
    let few = subst (HasFewFillings x) c.as_slice.ensures c.in_ok-fillings.ensures.few in
    record {
      ok = IfOk-weaker c.program_shown.result (IsProgramShown v ws most lists) (IsProgramOf x ws c.args.radius c.args.margin vs)
          (program_from x c.args.radius c.args.margin vs cells v are lists listed ws most heaviest c.in_ok-cells.ensures.ground few) c.program_shown.ensures.ok;
      err = IfErr-weaker c.program_shown.result (λ fault. OnLarge fault (IsLargeShown v ws most lists)) (IsRowsFault x ws c.args.radius c.args.margin vs)
          (λ fault large. on_large_weaker fault (IsLargeShown v ws most lists) (IsLargeProgram x ws c.args.radius c.args.margin vs)
          (large_from x c.args.radius c.args.margin vs cells v are lists listed ws most heaviest c.in_ok-cells.ensures.ground) large) c.program_shown.ensures.err;
    }
