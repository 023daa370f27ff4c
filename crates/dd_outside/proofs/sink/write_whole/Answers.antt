use Rattle.std.proofs.Common.{arith}
use Rattle.dd_outside.specs.lemmas.ByteLaws.{wrote_more, wrote_front}
use Rattle.dd_outside.proofs.sink.write_whole.Goals as goal

pub loop-at-preserved : goal.loop-at-preserved
loop-at-preserved g c = record {
  in_range = omega (arith, c.in-Ok.ensures.bound);
  written = wrote_more _ _ _ _ _ _ c.loop-at.invariant.written c.in-Ok.ensures.bytes;
  untouched = λ none. absurd (omega (arith, none, c.in-Ok.ensures.some (omega arith)));
  later = omega (arith, c.write.ensures.cause.later);
}

pub returns-in-Err-clause-front : goal.returns-in-Err-clause-front
returns-in-Err-clause-front g c = wrote_front _ _ _ _ _ c.loop-at.invariant.written c.in-Err.ensures.bytes
