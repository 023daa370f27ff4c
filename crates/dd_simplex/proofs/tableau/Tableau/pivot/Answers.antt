use Rattle.std.proofs.Common.{◌≡◌, List, ◌<◌, length, get_or, subst, sym, ap, ◌∙◌, arith}
use Rattle.std.proofs.lemmas.List.{with_items_is, get_or_default}
use Rattle.std.specs.{List.slice_set, Vec.with_items}
use Rattle.dd_fraction.specs.Exact.{Exact, plus, times}
use Rattle.dd_simplex.specs.Programs.{fraction_at, zero_of}
use Rattle.dd_simplex.specs.table.Lines.{Table, Line, line_at, other_at, changed_lines, changed_table, less}
use Rattle.dd_simplex.proofs.LineSteps.{table_is}
use Rattle.dd_simplex.proofs.tableau.Tableau.pivot.Goals as goal

pub returns-clause-value : goal.returns-clause-value
returns-clause-value c did =
    let t : Table = record { lines = c.self.inside.lines.items; others = c.self.inside.others.items; value = c.self.inside.value; costs = c.self.inside.costs.items } in
    let e = c.args.e in
    let r = c.args.r in
    let place : e < length t.others = subst (λ (x : Table). e < length x.others) (sym c.self.view_is) c.requires.place in
    let line : r < length t.lines = subst (λ (x : Table). r < length x.lines) (sym c.self.view_is) c.requires.line in
    let kept : length c.pivot_lines.new.lines ≡ c.self.inside.lines.len = c.pivot_lines.auto.lines ∙ c.as_mut_slice.ensures.len in
    let same : (with_items c.self.inside.lines c.pivot_lines.new.lines).items ≡ c.pivot_lines.new.lines =
    with_items_is c.self.inside.lines c.pivot_lines.new.lines kept in
    let costs : (with_items c.self.inside.costs c.pivot_objective.new.costs).items ≡ c.pivot_objective.new.costs =
    with_items_is c.self.inside.costs c.pivot_objective.new.costs (c.pivot_objective.auto.costs ∙ c.as_mut_slice-2.ensures.len) in
    let entering : c.index-entering.result.now ≡ other_at t.others e = c.index-entering.ensures ∙ get_or_default t.others e _ 0 place in
    let leaving : c.behind-self.inside.basic ≡ (line_at t.lines r).basic =
    ap (λ (l : Line). l.basic) (c.behind-self.view_is ∙ (c.index.ensures ∙ get_or_default t.lines r _ _ line)) in
    let new : c.pivot_lines.new.lines ≡ changed_lines e r (other_at t.others e) t.lines =
    c.pivot_lines.ensures.value c.if-not-pivot_lines.false ∙ (λ i. changed_lines e r (entering i) (c.as_mut_slice.ensures.value i)) in
    let pivot : c.index-2.result.now ≡ line_at c.pivot_lines.new.lines r =
    c.index-2.ensures ∙ (ap (λ (ls : List Line). get_or ls r c.index-2.result.now) same ∙ get_or_default c.pivot_lines.new.lines r _ _ (omega (arith, line, c.pivot_lines.auto.lines, c.as_mut_slice.ensures.value))) in
    let q : Line = c.index-2.result.now in
    let value : c.pivot_objective.new.value ≡ plus t.value (times (fraction_at t.costs e) q.bound) =
    c.pivot_objective.ensures.value did ∙ ap (λ (cs : List Exact). plus t.value (times (fraction_at cs e) q.bound)) c.as_mut_slice-2.ensures.value in
    let rest : c.pivot_objective.new.costs ≡ less (fraction_at t.costs e) (slice_set t.costs e zero_of) q.cells =
    c.pivot_objective.ensures.costs did ∙ ap (λ (cs : List Exact). less (fraction_at cs e) (slice_set cs e zero_of) q.cells) c.as_mut_slice-2.ensures.value in
    table_is t e r _ q _ _ _ line (same ∙ new) (pivot ∙ ap (λ (ls : List Line). line_at ls r) (sym same)) (ap (slice_set t.others e) leaving) value (costs ∙ rest)
    ∙ ap (changed_table e r) c.self.view_is
