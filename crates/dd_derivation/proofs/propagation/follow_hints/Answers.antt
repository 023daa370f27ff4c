use Rattle.std.proofs.Common.{◌≡◌, ◌∷◌, get_or, take, sym}
use Rattle.dd_clause.specs.Clauses.{negation}
use Rattle.dd_derivation.specs.declared.propagation.Finding.TheVariants.{Falsified, Forced, Open}
use Rattle.dd_derivation.specs.checking.MarksOf.{literals_of, with_mark}
use Rattle.dd_derivation.specs.lemmas.Falses.{hint_seen, FalsesAre-forced, AreUpTo-marked, literals_of-more, conflict_now}
use Rattle.dd_derivation.proofs.propagation.follow_hints.Goals as goal

pub returns-in-Falsified-clause-value : goal.returns-in-Falsified-clause-value
returns-in-Falsified-clause-value c =
    let known = c.args.known.now in
    let hints = c.as_slice-hints.result.now in
    let i = c.loop-place.place in
    let so_far = c.loop-place.invariant.so_far in
    let h = hint_seen known c.loop-place.marks c.args.number (literals_of known (take i hints)) so_far.0 (get_or hints i 0) Falsified so_far.1 c.in-Falsified.ensures in
    rw (← c.as_slice-hints.ensures) (sym (conflict_now known c.args.step.now.clause so_far.0 hints i Falsified c.loop-place-test.true h so_far.2))

pub returns-in-Open-clause-value : goal.returns-in-Open-clause-value
returns-in-Open-clause-value c =
    let known = c.args.known.now in
    let hints = c.as_slice-hints.result.now in
    let i = c.loop-place.place in
    let so_far = c.loop-place.invariant.so_far in
    let h = hint_seen known c.loop-place.marks c.args.number (literals_of known (take i hints)) so_far.0 (get_or hints i 0) Open so_far.1 c.in-Open.ensures in
    rw (← c.as_slice-hints.ensures) (sym (conflict_now known c.args.step.now.clause so_far.0 hints i Open c.loop-place-test.true h so_far.2))

pub loop-place-preserved : goal.loop-place-preserved
loop-place-preserved c =
    let known = c.args.known.now in
    let hints = c.as_slice-hints.result.now in
    let i = c.loop-place.place in
    let marks = c.loop-place.marks in
    let l = c.in-Forced.literal in
    let so_far = c.loop-place.invariant.so_far in
    let h = hint_seen known marks c.args.number (literals_of known (take i hints)) so_far.0 (get_or hints i 0) (Forced l) so_far.1 c.in-Forced.ensures in
    let new : c.mark.new.marks ≡ with_mark marks c.args.number (negation l) = rw c.negation.ensures at c.mark.ensures in
    record {
      so_far = (negation l ∷ so_far.0, rw (new, literals_of-more known hints i c.loop-place-test.true) (FalsesAre-forced known marks c.args.number (literals_of known (take i hints)) so_far.0 (get_or hints i 0) l so_far.1 h), conflict_now known c.args.step.now.clause so_far.0 hints i (Forced l) c.loop-place-test.true h so_far.2);
      older = rw new (AreUpTo-marked marks c.args.number (negation l) c.loop-place.invariant.older);
    }
