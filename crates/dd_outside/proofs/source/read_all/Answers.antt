use Rattle.std.proofs.Common.{◌≡◌, ◌+◌, length, length-take, length-append, length-drop, arith, rules}
use Rattle.dd_outside.specs.lemmas.ByteLaws.{length_take_at_most, gave_few_more, read_on_length, read_on_consumes}
use Rattle.dd_outside.specs.Bytes.{GivesAtMost}
use Rattle.dd_outside.proofs.source.read_all.Goals as goal

pub returns-in_err-count-clause-refused : goal.returns-in_err-count-clause-refused
returns-in_err-count-clause-refused g c =
    let few : GivesAtMost (g.S.Source.left c.args.source.now) (g.S.Source.left c.read_on.new.source) (c.args.limit + 1) =
    gave_few_more _ _ _ c.loop-buffer.bytes.items _ _ c.loop-buffer.invariant.read (c.in_err-count.ensures.refused) (omega (arith, length_take_at_most c.min-most.result c.deref_mut.result.now)) in
    search rules

pub returns-in_err-count-clause-stopped : goal.returns-in_err-count-clause-stopped
returns-in_err-count-clause-stopped g c =
    let few = λ (given : GivesAtMost (g.S.Source.left c.loop-buffer.source) (g.S.Source.left c.read_on.new.source) 0).
    gave_few_more _ _ _ c.loop-buffer.bytes.items 0 c.args.limit c.loop-buffer.invariant.read given (omega arith) in
    search (rules, few)

pub returns-then-count-eq0-clause-fits : goal.returns-then-count-eq0-clause-fits
returns-then-count-eq0-clause-fits g c =
    let long : length c.read_on.new.bytes.items ≡ length c.loop-buffer.bytes.items + c.in_ok-count.count =
    read_on_length _ _ _ _ _ c.in_ok-count.ensures.bytes in
    omega arith

pub loop-buffer-smaller : goal.loop-buffer-smaller
loop-buffer-smaller g c =
    let long : length c.read_on.new.bytes.items ≡ length c.loop-buffer.bytes.items + c.in_ok-count.count =
    read_on_length _ _ _ _ _ c.in_ok-count.ensures.bytes in
    omega arith

pub loop-buffer-preserved : goal.loop-buffer-preserved
loop-buffer-preserved g c =
    let long : length c.read_on.new.bytes.items ≡ length c.loop-buffer.bytes.items + c.in_ok-count.count =
    read_on_length _ _ _ _ _ c.in_ok-count.ensures.bytes in
    record {
      in_range = omega (arith, length_take_at_most c.min-most.result c.deref_mut.result.now, c.in_ok-count.ensures.fits);
      buffer = simp (length-take, length-append, length-drop) (omega (arith, c.loop-buffer.buffer.ok.0));
      read = read_on_consumes _ _ _ _ _ _ c.loop-buffer.invariant.read c.in_ok-count.ensures.bytes;
      later = omega (arith, c.loop-buffer.invariant.later, c.in_ok-count.ensures.later);
    }
