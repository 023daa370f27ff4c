use Rattle.std.proofs.Common.{◌≡◌, ℕ, ◌<◌, List, [], length, ap, subst, ◌∙◌, arith}
use Rattle.std.proofs.lemmas.List.{get_or_default}
use Rattle.dd_simplex.specs.{Programs.zero_of, table.Lines.Line, table.Values.GiveColumns}
use Rattle.dd_simplex.proofs.Valuing.{columns_set, columns_skip}
use Rattle.dd_simplex.proofs.solution.column_values.Goals.{then-line-columns, else-line-columns}
use Rattle.dd_simplex.proofs.solution.column_values.Goals as goal

pub loop-i-preserved : goal.loop-i-preserved
loop-i-preserved c =
    let lines : List Line = c.args.lines.now in
    let i = c.loop-i.i in
    let p : i < length lines = c.loop-i-test.true in
    let line = c.line.view_is ∙ (c.index-lines-i.is ∙ get_or_default lines i _ (record { basic = 0; bound = zero_of; cells = [] }) p) in
    let basic = ap (λ (l : Line). l.basic) line in
    let bound = ap (λ (l : Line). l.bound) line in
    elim c.if-line-columns.branch [
      | then-line-columns w ↦
          rw w.values-is (columns_set lines c.args.columns i c.loop-i.values.items c.line.inside.basic c.line.inside.bound p basic bound w.if-line-columns.true c.loop-i.invariant)
      | else-line-columns w ↦
          rw w.values-is (columns_skip lines c.args.columns i c.loop-i.values.items c.line.inside.basic p basic w.if-line-columns.false c.loop-i.invariant)
    ]

pub returns : goal.returns
returns c =
    let end : c.loop-i.i ≡ length c.args.lines.now = omega (arith, c.loop-i-test.false, c.loop-i.auto.i-end) in
    rw c.from_vec.ensures (subst (λ (k : ℕ). GiveColumns c.args.lines.now c.args.columns k c.loop-i.values.items) end c.loop-i.invariant)
