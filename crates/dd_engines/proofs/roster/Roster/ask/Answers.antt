use Rattle.std.proofs.Common.{arith}
use Rattle.dd_engines.proofs.Asking.{ended_err, whole_start, whole_at_end, whole_no_memory, whole_found, whole_silent, whole_dropped}
use Rattle.dd_engines.proofs.Keeping.{kept_from_round, first_asked_found, first_asked_nothing}
use Rattle.dd_engines.proofs.roster.Roster.ask.Goals as goal

pub loop-place-init : goal.loop-place-init
loop-place-init g c = whole_start _ _ _ c.args.self.now.engines.items

pub loop-place-preserved-in-Silent : goal.loop-place-preserved-in-Silent
loop-place-preserved-in-Silent g c =
    whole_silent _ _ _ _ c.loop-place.self.engines.items c.loop-place.place _ c.ask_one.new.engine c.index_mut.ensures.value (omega arith)
    c.ask_one.ensures.once (rw c.in-Silent.is at c.in_ok-outcome.ensures.shows) c.loop-place.invariant

pub loop-place-preserved : goal.loop-place-preserved
loop-place-preserved g c =
    whole_dropped _ _ _ _ c.loop-place.self.engines.items _ c.loop-place.place _ c.ask_one.new.engine c.index_mut.ensures.value (omega arith)
    (rw c.in-Wrong.is at c.in_ok-outcome.ensures.shows) c.remove.ensures.items c.loop-place.invariant

pub returns-in_err-outcome-clause-round : goal.returns-in_err-outcome-clause-round
returns-in_err-outcome-clause-round g c =
    rw (ended_err c.from_residual.result c.from_residual.ensures.0)
    (whole_no_memory _ _ _ _ c.loop-place.self.engines.items c.loop-place.place c.index_mut.result.now c.ask_one.new.engine c.index_mut.ensures.value (omega arith) c.ask_one.ensures.once c.loop-place.invariant)

pub returns-in_err-outcome-clause-kept : goal.returns-in_err-outcome-clause-kept
returns-in_err-outcome-clause-kept g c = kept_from_round _ _ _ (returns-in_err-outcome-clause-round g c)

pub returns-in-Right-clause-round : goal.returns-in-Right-clause-round
returns-in-Right-clause-round g c =
    whole_found _ _ _ _ c.loop-place.self.engines.items c.loop-place.place _ c.ask_one.new.engine c.index_mut.ensures.value (omega arith)
    c.ask_one.ensures.once (rw c.in-Right.is at c.in_ok-outcome.ensures.shows).1 c.loop-place.invariant

pub returns-in-Right-clause-kept : goal.returns-in-Right-clause-kept
returns-in-Right-clause-kept g c = kept_from_round _ _ _ (returns-in-Right-clause-round g c)

pub returns-in-Right-clause-first : goal.returns-in-Right-clause-first
returns-in-Right-clause-first g c = first_asked_found _ _ (returns-in-Right-clause-round g c)

pub returns-clause-round : goal.returns-clause-round
returns-clause-round g c = whole_at_end _ _ _ _ c.loop-place.self.engines.items c.loop-place.place (omega arith) c.loop-place.invariant

pub returns-clause-kept : goal.returns-clause-kept
returns-clause-kept g c = kept_from_round _ _ _ (returns-clause-round g c)

pub returns-clause-first : goal.returns-clause-first
returns-clause-first g c = first_asked_nothing _ _ (returns-clause-round g c)
