use Rattle.std.proofs.Common.{◌∙◌, length, length-append, ap, sym, arith}
use Rattle.dd_tokens.specs.Format.{with_front}
use Rattle.dd_tokens.proofs.Steps.{next, cut_off}
use Rattle.dd_tokens.proofs.cutting.tokens.Goals as goal

pub loop-rest-preserved-in-Gap : goal.loop-rest-preserved-in-Gap
loop-rest-preserved-in-Gap c =
    let of = c.in-Gap.ensures in
    let part = c.split_at.ensures in
    (omega (arith, of.within, part.back_len, c.loop-rest.invariant.0), omega (arith, c.loop-rest.invariant.1), rw part.back (ap (with_front _) (sym (next _ _ _ of.value of.within.0 of.within.1))) ∙ c.loop-rest.invariant.2)

pub loop-rest-preserved : goal.loop-rest-preserved
loop-rest-preserved c =
    let of = c.in-Cut.ensures in
    let part = c.split_at-in-Cut.ensures in
    let pushed = c.in_ok-push-in-Cut.ensures.ok in (
      omega (arith, of.within, part.back_len, c.loop-rest.invariant.0),
      omega (arith, of.within, simp length-append at (ap length pushed), c.loop-rest.invariant.1),
      cut_off _ _ _ _ _ _ _ of.value of.within part.back pushed ∙ c.loop-rest.invariant.2,
    )
