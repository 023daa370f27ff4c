use Rattle.std.proofs.Common.{◌≤◌, ap, subst, sym, ◌∙◌}
use Rattle.std.specs.Prelude.{◌^◌}
use Rattle.dd_counter.specs.{Counter.grown, Counter.row, lemmas.Left.rows_few, lemmas.Left.rows_step}
use Rattle.dd_counter.proofs.counter.push_rows.Goals as goal

pub push_row-requires-clause-few : goal.push_row-requires-clause-few
push_row-requires-clause-few c =
    let now = c.loop-number.cnf in
    subst (λ b. (grown now (row c.args.weights.now c.args.below c.loop-number.number b now.variables).gates).variables ≤ 2 ^ 24) (sym c.deref.ensures.value)
    (rows_few c.args.weights.now c.args.below c.loop-number.number c.args.cells c.args.cnf.now now c.loop-number.before.items (2 ^ 24) c.loop-number.invariant c.loop-number-test.true c.requires.few)

pub loop-number-preserved : goal.loop-number-preserved
loop-number-preserved c =
    let now = c.loop-number.cnf in
    rows_step c.args.weights.now c.args.below c.loop-number.number c.args.cells c.args.cnf.now now c.push_row.new.cnf c.loop-number.before.items c.in_ok-before.before.items
    c.loop-number.invariant c.loop-number-test.true
    (c.in_ok-before.ensures.clauses ∙ ap (λ b. grown now (row c.args.weights.now c.args.below c.loop-number.number b now.variables).gates) c.deref.ensures.value)
    (c.in_ok-before.ensures.signals ∙ ap (λ b. (row c.args.weights.now c.args.below c.loop-number.number b now.variables).signals) c.deref.ensures.value)
    c.in_ok-before.ensures.in_range
