use Rattle.std.proofs.Common.{◌+◌, arith}
use Rattle.dd_compile.proofs.OwnInputs.{fresh_step, fresh_end}
use Rattle.dd_compile.proofs.templates.fresh.Goals as goal

pub loop-number-preserved : goal.loop-number-preserved
loop-number-preserved c =
    fresh_step c.args.before c.args.count c.loop-number.number (c.args.before + c.loop-number.number + 1) c.loop-number.signals.items c.push.new.self.items
    c.loop-number-test.true c.loop-number.invariant (omega arith) c.in_ok-push.ensures.items

pub returns : goal.returns
returns c = fresh_end c.args.before c.args.count c.loop-number.number c.loop-number.signals.items (omega arith) c.loop-number.invariant
