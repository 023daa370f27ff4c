use Rattle.std.proofs.Common.{◌≡◌, ℕ, ◌+◌, ◌<◌, List, length, get_or, sym, ap, subst, ◌∙◌, arith}
use Rattle.std.proofs.lemmas.List.{get_or_default}
use Rattle.dd_fraction.specs.Exact.{Exact, minus}
use Rattle.dd_simplex.specs.{Programs.zero_of, table.Lines.Table, table.Lines.other_at, table.Values.GiveDuals}
use Rattle.dd_simplex.proofs.Valuing.{duals_set, duals_skip}
use Rattle.dd_simplex.proofs.solution.dual_values.Goals.{then-variable-columns, else-variable-columns}
use Rattle.dd_simplex.proofs.solution.dual_values.Goals as goal

pub loop-j-preserved : goal.loop-j-preserved
loop-j-preserved c =
    let t : Table = c.args.tableau.now in
    let j = c.loop-j.j in
    let others : c.tableau.inside.others.items ≡ t.others = ap (λ (x : Table). x.others) c.tableau.view_is in
    let size = c.tableau.inside.others.ok.0 in
    let p : j < length t.others = let z = ap length others in omega (arith, z, size, c.len-j-end.ensures, c.loop-j-test.true) in
    let name : c.index-variable.result.now ≡ other_at t.others j =
    c.index-variable.ensures ∙ (ap (λ (xs : List ℕ). get_or xs j c.index-variable.result.now) others ∙ get_or_default t.others j _ 0 p) in
    let costs : c.tableau.inside.costs.items ≡ t.costs = ap (λ (x : Table). x.costs) c.tableau.view_is in
    let q : j < length t.costs = let z = c.requires.costs in omega (arith, z, p) in
    let within : c.index-variable.result.now < c.args.columns + length t.lines =
    subst (λ (v : ℕ). v < c.args.columns + length t.lines) (sym name) (c.requires.others j p) in
    elim c.if-variable-columns.branch [
      | then-variable-columns w ↦ (
          let cost = w.index.ensures ∙ (ap (λ (xs : List Exact). get_or xs j w.index.result.now) costs ∙ get_or_default t.costs j _ zero_of q) in
          rw w.duals-is
          (duals_set t c.args.columns j c.loop-j.duals.items c.index-variable.result.now w.negate.result p name (w.negate.ensures ∙ ap minus cost) w.if-variable-columns.true within c.loop-j.invariant))
      | else-variable-columns w ↦
          rw w.duals-is (duals_skip t c.args.columns j c.loop-j.duals.items c.index-variable.result.now p name w.if-variable-columns.false c.loop-j.invariant)
    ]

pub returns : goal.returns
returns c =
    let others = ap (λ (x : Table). length x.others) c.tableau.view_is in
    let end : c.loop-j.j ≡ length c.args.tableau.now.others = let size = c.tableau.inside.others.ok.0 in omega (arith, others, size, c.len-j-end.ensures, c.loop-j-test.false, c.loop-j.auto.j-end) in
    rw c.from_vec.ensures (subst (λ (k : ℕ). GiveDuals c.args.tableau.now c.args.columns k c.loop-j.duals.items) end c.loop-j.invariant)
