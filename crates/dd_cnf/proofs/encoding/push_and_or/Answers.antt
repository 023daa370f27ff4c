use Rattle.std.proofs.{Common.◌∙◌, Common.arith, lemmas.Grind.common_steps}
use Rattle.std.specs.Prelude.{not}
use Rattle.dd_cnf.proofs.GateClauses.{last_in_range}
use Rattle.dd_cnf.proofs.encoding.push_and_or.Goals as goal

pub push_clause-requires-2 : goal.push_clause-requires-2
push_clause-requires-2 c =
    last_in_range c.loop-member.cnf.variables c.args.gate (not c.args.gate.positive) c.args.members.now c.as_slice.result.now c.loop-member.member-index
    (c.as_slice.ensures ∙ c.loop-member.invariant.last) (rw c.loop-member.invariant.variables c.requires.gate) (rw c.loop-member.invariant.variables c.requires.members)

pub loop-member-preserved : goal.loop-member-preserved
loop-member-preserved c = grind (arith, common_steps)

pub returns-clause-ok : goal.returns-clause-ok
returns-clause-ok c = grind (arith, common_steps)
