use Rattle.std.proofs.Common.{◌≡◌, ◌<◌, length, Some, inr, refl, ap, sym, ◌∙◌, subst, arith}
use Rattle.std.specs.List.{All}
use Rattle.dd_simplex.specs.table.{Lines.Line, Lines.Table, Choices.DoRatiosFit, Steps.DoesEnter, Steps.DoesLeave}
use Rattle.dd_simplex.proofs.IdleLines.{table_fractions, table_sizes, place_within}
use Rattle.dd_simplex.proofs.tableau.Tableau.iterate.Goals as goal

pub pivot-requires-clause-fractions : goal.pivot-requires-clause-fractions
pivot-requires-clause-fractions c = table_fractions _ c.requires

pub pivot-requires-clause-sizes : goal.pivot-requires-clause-sizes
pivot-requires-clause-sizes c = table_sizes _ c.requires

pub leaving-requires : goal.leaving-requires
leaving-requires c =
    let t : Table = c.args.self.now in
    let e = c.in-Some.e in
    let costs : c.as_slice.result.now ≡ t.costs = c.as_slice.ensures.value ∙ ap (λ (x : Table). x.costs) c.self.view_is in
    let lines : c.as_slice-3.result.now ≡ t.lines = c.as_slice-3.ensures.value ∙ ap (λ (x : Table). x.lines) c.self.view_is in
    let place : e < length t.others = omega (arith, ap length costs, c.in-Some.ensures.0, c.requires.costs) in
    record { sizes = subst (All (λ (l : Line). e < length l.cells)) (sym lines) (place_within t c.requires e place) }

pub returns-then-not-pivot-clause-stuck : goal.returns-then-not-pivot-clause-stuck
returns-then-not-pivot-clause-stuck c =
    let t : Table = c.args.self.now in
    let e = c.in-Some.e in
    let costs : c.as_slice.result.now ≡ t.costs = c.as_slice.ensures.value ∙ ap (λ (x : Table). x.costs) c.self.view_is in
    let others : c.as_slice-2.result.now ≡ t.others = c.as_slice-2.ensures.value ∙ ap (λ (x : Table). x.others) c.self.view_is in
    let lines : c.as_slice-3.result.now ≡ t.lines = c.as_slice-3.ensures.value ∙ ap (λ (x : Table). x.lines) c.self.view_is in
    let enters : DoesEnter t (Some e) = rw (costs, others) at c.in-Some.ensures in
    let leaves : DoRatiosFit t.lines e (length t.lines) × DoesLeave t e (Some c.in-Some-2.r) = rw (c.in-Some-2.is, lines) at c.in_ok-r.ensures.line in (
      refl,
      record {
        place = e;
        enters = enters;
        reason = inr (inr (record { line = c.in-Some-2.r; ratios = leaves.0; leaves = leaves.1; misfit = sym c.pivot.ensures.fits ∙ c.if-not-pivot.true }));
      },
    )
