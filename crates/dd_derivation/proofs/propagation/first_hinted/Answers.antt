use Rattle.std.proofs.Common.{sym, refl}
use Rattle.dd_derivation.specs.lemmas.Falses.{hinted_here, hinted_more}
use Rattle.dd_derivation.proofs.propagation.first_hinted.Goals as goal
use Rattle.dd_derivation.proofs.propagation.first_hinted.Goals.{in-Some+in_default-first_of, in_default}

pub returns-in-Some-first_of : goal.returns-in-Some-first_of
returns-in-Some-first_of c = sym (hinted_here c.args.known.now c.args.hints.now c.loop-hint.hint-index c.args.variable c.in-Some.clause.now c.in-Some-first_of.literal c.loop-hint-test.true c.loop-hint.invariant (sym c.in-Some.ensures) (sym c.in-Some-first_of.ensures))

pub loop-hint-preserved : goal.loop-hint-preserved
loop-hint-preserved c = hinted_more c.args.known.now c.args.hints.now c.loop-hint.hint-index c.args.variable c.loop-hint-test.true c.loop-hint.invariant (elim c.match-find_clause.branch [
  | in-Some+in_default-first_of w ↦ rw (← w.in-Some.ensures) (sym w.in_default-first_of.ensures)
  | in_default w ↦ rw (← w.in_default.ensures) refl
])
