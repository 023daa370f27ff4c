use Rattle.std.proofs.Common.{ℕ, List, refl, subst, inl, inr}
use Rattle.dd_session.specs.Sides.{RefusedBy, change}
use Rattle.dd_session.proofs.session.refuse_fault.Goals as goal

pub returns-in-Ok-clause-wrote : goal.returns-in-Ok-clause-wrote
returns-in-Ok-clause-wrote g c = inl record {
  line = _;
  line_is = c.in-Ok.ensures;
  wrote = subst (λ (l : List ℕ). RefusedBy (change g.K.Sink.held g.K.Sink.faults c.args.sink.now c.refuse.new.sink) l c.refuse.result) c.as_bytes.ensures.value c.refuse.ensures.wrote;
}

pub returns-in-Err-clause-wrote : goal.returns-in-Err-clause-wrote
returns-in-Err-clause-wrote g c = inr (refl, refl)
