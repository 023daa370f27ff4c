use Rattle.std.proofs.Common.{ap, ◌-◌, is_some}
use Rattle.dd_written.specs.lemmas.Rounds.{goes_on, stops}
use Rattle.dd_commands.specs.reading.Forms.{at_most}
use Rattle.dd_commands.proofs.reading.at_most.Goals as goal

pub returns-in-Err-Syntax : goal.returns-in-Err-Syntax
returns-in-Err-Syntax g c =
    let item = g.T.FromTokens.item c.args.from.bytes.now in
    let none = rw c.in-Err-Syntax.field-0-is at c.in-Err-Syntax.ensures in
    stops (λ ts. is_some (item ts)) item c.loop.items (c.args.most - c.loop.counter) c.loop.rest.now (at_most item c.args.most c.args.tokens.now) (ap (λ o. is_some o) none) c.loop.invariant

pub loop-preserved : goal.loop-preserved
loop-preserved g c =
    let item = g.T.FromTokens.item c.args.from.bytes.now in
    goes_on (λ ts. is_some (item ts)) item c.loop.items _ c.args.most c.loop.counter c.loop.rest.now c.in-Ok.next c.in-Ok.after.now (at_most item c.args.most c.args.tokens.now) c.loop-test.true (ap (λ o. is_some o) c.in-Ok.ensures) c.in-Ok.ensures c.in_ok-push-in-Ok.ensures.ok c.loop.invariant
