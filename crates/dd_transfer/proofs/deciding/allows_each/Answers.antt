use Rattle.std.proofs.Common.{◌≡◌, true, arith}
use borrow.Author.Count.{below_more}
use Rattle.dd_formula.specs.LocalRule.{rule_allows}
use Rattle.dd_transfer.proofs.deciding.allows_each.Goals as goal

pub loop-symbol-preserved : goal.loop-symbol-preserved
loop-symbol-preserved c =
    let r = c.args.rule.now in
    let here : rule_allows r c.args.node c.loop-symbol.symbol ≡ true = (let value = c.allows.ensures.value in let yes = c.if-not-allows.false in cc) in
    below_more (λ s. rule_allows r c.args.node s ≡ true) c.loop-symbol.symbol c.loop-symbol.invariant here

pub returns : goal.returns
returns c = λ yes s lt. c.loop-symbol.invariant s (omega (arith, c.symbols-symbol-end.ensures.value, c.loop-symbol-test.false, lt))
