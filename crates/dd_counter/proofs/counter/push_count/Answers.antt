use Rattle.std.proofs.Common.{◌++◌, length, get_or, ap, ◌∙◌}
use Rattle.dd_counter.specs.Counter.{grown, member, of_symbol, members, joined}
use Rattle.dd_counter.specs.lemmas.Left.{left_step, left_ends, with_or, or_signal}
use Rattle.dd_counter.proofs.counter.push_count.Goals as goal

pub loop-symbol-preserved : goal.loop-symbol-preserved
loop-symbol-preserved c =
    let ws = c.args.weights.now in
    let s = c.loop-symbol.symbol in
    let now = c.loop-symbol.cnf in
    left_step (of_symbol ws c.args.number c.args.most c.args.before.now) s (length ws) c.args.cnf.now now c.push_member.new.cnf
    c.loop-symbol.members.items c.push_member.new.members.items c.loop-symbol.invariant c.loop-symbol-test.true
    (c.in_ok-push_member.ensures.clauses ∙ ap (λ f. grown now (member f (get_or ws s 0) c.args.most c.args.before.now now.variables).gates) c.input_of-from.ensures)
    (c.in_ok-push_member.ensures.members ∙ ap (λ f. c.loop-symbol.members.items ++ (member f (get_or ws s 0) c.args.most c.args.before.now now.variables).signals) c.input_of-from.ensures)
    c.in_ok-push_member.ensures.in_range

pub returns-clause-clauses : goal.returns-clause-clauses
returns-clause-clauses c =
    let ws = c.args.weights.now in
    let each = joined (members ws c.args.number c.args.most c.args.before.now) c.args.cnf.now.variables in
    let all =
    left_ends (of_symbol ws c.args.number c.args.most c.args.before.now) c.loop-symbol.symbol (length ws) c.args.cnf.now c.loop-symbol.cnf c.loop-symbol.members.items c.loop-symbol.invariant
    c.loop-symbol-test.false in
    with_or c.args.cnf.now c.loop-symbol.cnf c.push_next.new.cnf each c.from_vec.result all.0 (c.from_vec.ensures ∙ all.1) c.in_ok-signal.ensures.ok

pub returns-clause-signal : goal.returns-clause-signal
returns-clause-signal c =
    let ws = c.args.weights.now in
    let each = joined (members ws c.args.number c.args.most c.args.before.now) c.args.cnf.now.variables in
    let all =
    left_ends (of_symbol ws c.args.number c.args.most c.args.before.now) c.loop-symbol.symbol (length ws) c.args.cnf.now c.loop-symbol.cnf c.loop-symbol.members.items c.loop-symbol.invariant
    c.loop-symbol-test.false in
    or_signal c.args.cnf.now c.loop-symbol.cnf each c.in_ok-signal.signal all.0 c.in_ok-signal.ensures.signal
