use Rattle.std.proofs.{lemmas.Result.err_from_is_err_and, Common.refl}
use Rattle.dd_script.proofs.Walking.{begins, written_here, goes_on, stops, spelled}
use Rattle.dd_script.proofs.parsing.walk.Goals as goal

pub loop-written-init : goal.loop-written-init
loop-written-init c = begins _ _ _ c.requires.written c.requires.begun c.requires.kept

pub meaning_of-requires-clause-written : goal.meaning_of-requires-clause-written
meaning_of-requires-clause-written c = written_here _ _ _ _ _ c.loop-written-test.true c.written-item.is c.loop-written.invariant c.requires.each

pub loop-written-preserved : goal.loop-written-preserved
loop-written-preserved c =
    goes_on _ _ _ _ _ c.loop-written-test.true c.written-item.is c.loop-written.invariant _ c.in-Ok.ensures _ c.in_ok-add-in-Ok.ensures c.symbols-symbols.ensures.kept

pub refusal_for-requires : goal.refusal_for-requires
refusal_for-requires c =
    rw c.in-Err-At.field-0-is
    (stops _ _ _ _ _ c.loop-written-test.true c.written-item.is c.loop-written.invariant c.requires.written _ (rw c.in-Err-At.field-0-is at c.in-Err-At.ensures))

pub returns-in_err-add-in-Ok-clause-refused : goal.returns-in_err-add-in-Ok-clause-refused
returns-in_err-add-in-Ok-clause-refused c =
    let p = err_from_is_err_and c.from_residual.result c.from_residual.ensures.1 in
    rw (p.1, p.2) refl

pub returns-in_err-refusal_for-in-Err-At-clause-refused : goal.returns-in_err-refusal_for-in-Err-At-clause-refused
returns-in_err-refusal_for-in-Err-At-clause-refused c =
    let p = err_from_is_err_and c.from_residual-in_err-refusal_for-in-Err-At.result c.from_residual-in_err-refusal_for-in-Err-At.ensures.1 in
    rw (p.1, p.2) refl

pub returns-clause-spelled : goal.returns-clause-spelled
returns-clause-spelled c = spelled _ _ _ _ c.requires.written c.loop-written.invariant c.loop-written-test.false
