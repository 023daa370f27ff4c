use Rattle.dd_certificate.specs.Text.{refutation_text}
use Rattle.dd_certificate.proofs.Growing.{item_more}
use Rattle.dd_certificate.proofs.writing.push_each_refutation.Goals as goal

pub loop-steps-preserved : goal.loop-steps-preserved
loop-steps-preserved c =
    item_more refutation_text c.args.text.now.items c.loop-steps.text.items c.push_refutation.new.text.items c.args.lists.now c.loop-steps.steps-index c.steps-item.result
    c.as_slice.result.now c.loop-steps-test.true c.loop-steps.invariant c.steps-item.is c.as_slice.ensures c.in_ok-push_refutation.ensures
