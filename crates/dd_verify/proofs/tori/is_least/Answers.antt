use Rattle.std.proofs.lemmas.Result.{IfOk-weaker}
use Rattle.dd_verify.proofs.{PartForms.lacking, TorusForms.weight_of, TorusForms.room_of, TorusForms.least_decides}
use Rattle.dd_verify.proofs.tori.is_least.Goals as goal

pub returns-then-not-branch : goal.returns-then-not-branch
returns-then-not-branch c = lacking _ _ _ _ c.in_ok-has_weight.ensures c.if-not-branch.true (λ h. weight_of h)

pub bounds-requires-clause-count : goal.bounds-requires-clause-count
bounds-requires-clause-count c =
    room_of c.args.rule.now c.args.periods c.args.weights.now c.args.weight c.args.symbols.now c.requires (c.in_ok-has_weight.ensures.0 c.if-not-branch.false)

pub returns : goal.returns
returns c =
    let has = c.in_ok-has_weight.ensures.0 c.if-not-branch.false in
    IfOk-weaker c.bounds.result _ _
    (least_decides c.args.rule.now c.args.periods c.args.weights.now c.nodes-nodes.ensures.kept c.requires c.args.weight c.args.symbols.now has c.args.steps.now)
    c.bounds.ensures
