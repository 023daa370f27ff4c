use Rattle.std.proofs.{Common.sym, Common.ap, Common.◌∙◌, Common.arith, lemmas.Grind.common_steps}
use Rattle.dd_written.specs.lemmas.Options.{nothing_some}
use Rattle.dd_commands.specs.{Heads.next_stage, lemmas.Whole.written_again}
use Rattle.dd_commands.proofs.Parts.{goes_on, all_read}
use Rattle.dd_commands.proofs.script.commands.Goals as goal

pub returns-in-Err-Syntax : goal.returns-in-Err-Syntax
returns-in-Err-Syntax c =
    let none = rw c.in-Err-Syntax.field-0-is at c.in-Err-Syntax.ensures in
    c.loop-rest.invariant.1.bad 0 (rw c.next_part.ensures.part (λ w may. nothing_some w (sym none ∙ written_again c.formula_is_read.ensures _ _ _ w may)))

pub loop-rest-preserved : goal.loop-rest-preserved
loop-rest-preserved c = (
  omega (arith, c.loop-rest.invariant.0, c.next_part.ensures.shorter),
  goes_on c.formula_is_read.ensures _ _ _ c.next_part.result.0.now c.next_part.result.1.now _ _ _ _ _ c.in-Ok.written c.loop-rest.invariant.1 c.next_part.ensures.part c.next_part.ensures.at_mark c.in-Ok.ensures c.in_ok-push-in-Ok.ensures.ok
      (c.next_stage-from.ensures ∙ ap next_stage c.head.ensures),
)

pub returns : goal.returns
returns c = all_read _ _ _ _ _ _ c.loop-rest.invariant.1 (grind (arith, common_steps))
