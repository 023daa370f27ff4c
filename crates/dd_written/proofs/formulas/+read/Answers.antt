use Rattle.std.proofs.Common.{◌≡◌, suc, ◌-◌, true, drop, Some, ap, sym, ◌∙◌, arith, rules}
use Rattle.dd_written.specs.{reading.Formulas.begins, reading.Formulas.part_at, reading.Formulas.unary_at, lemmas.Rounds.goes_on}
use Rattle.dd_written.proofs.formulas.+read.Goals as goal

pub unary-returns : goal.unary-returns
unary-returns t c = let more : suc (c.args.budget - 1) ≡ c.args.budget = omega arith in rw (← more) c.nested.ensures

pub chain-loop-preserved : goal.chain-loop-preserved
chain-loop-preserved t c =
    let part = part_at c.args.join (unary_at c.args.budget) in
    let sign : begins c.args.join c.loop.rest.now ≡ true = search (rules, c.begins-in-loop.ensures, c.if-not-begins-2.ensures) in
    let is : part (drop 1 c.loop.rest.now) ≡ Some (c.in_ok-next.next, c.in_ok-next.after.now) = ap part (sym c.split_at.ensures.back) ∙ c.in_ok-next.ensures in
    goes_on (begins c.args.join) (λ ts. part (drop 1 ts)) _ _ _ _ _ c.in_ok-next.next c.in_ok-next.after.now _ c.loop-test.true sign is c.in_ok-push-2.ensures.ok c.loop.invariant
