use Rattle.std.proofs.Common.{◌+◌, ◌*◌, ap, refl}
use Rattle.std.specs.Prelude.{Result, Ok, Err, OnOk}
use Rattle.dd_problem.specs.lemmas.RangesLeft.{cell_parts}
use Rattle.dd_problem.proofs.one_hot.push_cell.Goals as goal

on_ok_more : {V E : Type 0} (r : Result V E) (P Q : Type 0) → (P → Q) → OnOk r P → OnOk r Q
on_ok_more (Ok v) P Q more h = more h
on_ok_more (Err e) P Q more h = tt

pub returns-clause-ok : goal.returns-clause-ok
returns-clause-ok c =
    let k = c.args.number in
    let x = c.args.premise.now in
    let from = k * c.symbols.result + 1 in
    on_ok_more c.push_disallowed.result _ _
    (cell_parts x k c.args.node from (from + c.symbols-2.result) c.args.cnf.now.clauses c.args.cnf.now.clauses c.push_some.new.cnf.clauses c.push_pairs.new.cnf.clauses
    c.push_disallowed.new.cnf.clauses (ap (λ m. k * m + 1) c.symbols.ensures.value) (ap (λ m. from + m) c.symbols-2.ensures.value) refl c.in_ok-push_some.ensures.ok
    c.in_ok-push_pairs.ensures.ok)
    c.push_disallowed.ensures.ok
