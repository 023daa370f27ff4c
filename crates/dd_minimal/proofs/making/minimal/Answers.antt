use Rattle.std.proofs.Common.{length, ap, sym, ◌∙◌}
use Rattle.dd_minimal.proofs.ListSteps.{outcomes_length}
use Rattle.dd_minimal.proofs.making.minimal.Goals as goal

pub strides_of-requires-clause-fillings : goal.strides_of-requires-clause-fillings
strides_of-requires-clause-fillings c = c.len.ensures ∙ (ap length c.in_ok-table.ensures ∙ outcomes_length c.args.rule.now c.args.node)

pub returns-clause-ok : goal.returns-clause-ok
returns-clause-ok c = record {
  nodes = c.in_ok-found.ensures.nodes;
  fitting = c.in_ok-found.ensures.fitting;
  list = c.in_ok-found.ensures.patterns;
  few = sym c.is_large.ensures ∙ c.if-is_large.false;
}
