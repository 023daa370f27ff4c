use Rattle.std.proofs.Common.{map, true, refl, rules}
use Rattle.dd_cnf.specs.Encoding.{literal}
use Rattle.dd_problem.specs.lemmas.RangesLeft.{range_to, left_step, some_in_range}
use Rattle.dd_problem.proofs.one_hot.push_some.Goals as goal

pub loop-variable-preserved : goal.loop-variable-preserved
loop-variable-preserved c =
    left_step (λ v. literal v true) (map (λ v. literal v true) (range_to c.args.from c.args.end)) c.loop-variable.literals.items c.push.new.self.items c.loop-variable.variable
    c.args.end c.loop-variable-test.true c.loop-variable.invariant (search rules)

pub push_clause-requires : goal.push_clause-requires
push_clause-requires c =
    rw c.deref.ensures.value
    (some_in_range c.args.cnf.now.variables c.args.from c.loop-variable.variable c.args.end (map (λ v. literal v true) (range_to c.args.from c.args.end)) c.loop-variable.literals.items
    c.requires.first c.requires.order c.requires.wide c.loop-variable-test.false refl c.loop-variable.invariant)
