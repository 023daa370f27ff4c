use Rattle.std.proofs.lemmas.Result.{err_from_is_err_and}
use Rattle.dd_faults.specs.{Commands.written_faults, lemmas.Nothing.none_first}
use Rattle.dd_script.proofs.Walking.{asked_is, means}
use Rattle.dd_script.proofs.draft.Draft.meaning_of.Goals as goal

pub mean-requires-clause-named : goal.mean-requires-clause-named
mean-requires-clause-named c = rw c.as_slice.ensures c.requires.script.automata.named

pub mean-requires-clause-formed : goal.mean-requires-clause-formed
mean-requires-clause-formed c = rw c.as_slice.ensures c.requires.script.automata.each

pub mean-requires-clause-faultless : goal.mean-requires-clause-faultless
mean-requires-clause-faultless c = none_first (written_faults c.args.self.now.context c.args.written.now) c.in_ok-check.ensures

pub check_limits-requires-clause-sound : goal.check_limits-requires-clause-sound
check_limits-requires-clause-sound c = rw c.in_ok-meaning.ensures.exact.1 c.in_ok-meaning.ensures.sound

pub returns-in_err-check_limits : goal.returns-in_err-check_limits
returns-in_err-check_limits c =
    let exact = rw c.as_slice.ensures at c.in_ok-meaning.ensures.exact in
    let p = err_from_is_err_and c.from_residual-in_err-check_limits.result c.from_residual-in_err-check_limits.ensures.1 in
    rw (p.1, p.2, asked_is c.args.self.now c.args.written.now c.in_ok-meaning.meaning c.in_ok-check.ensures exact.0 exact.1) c.in_err-check_limits.ensures.accepts

pub returns : goal.returns
returns c =
    let exact = rw c.as_slice.ensures at c.in_ok-meaning.ensures.exact in
    means _ _ _ c.in_ok-check.ensures exact.0 exact.1 (rw c.as_slice.ensures at c.in_ok-meaning.ensures.sound) c.in_ok-check_limits.ensures.accepts c.in_ok-check_limits.ensures.pairs
