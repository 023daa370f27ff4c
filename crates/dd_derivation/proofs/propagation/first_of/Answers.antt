use Rattle.std.proofs.Common.{false, sym}
use Rattle.dd_clause.specs.declared.clause.Literal.{Literal}
use Rattle.dd_derivation.specs.lemmas.Falses.{first_literal_of-here, first_literal_of-more}
use Rattle.dd_derivation.proofs.propagation.first_of.Goals as goal

none : Literal
none = record { variable = 0; positive = false }

pub returns-then-literal-variable : goal.returns-then-literal-variable
unfolding none
returns-then-literal-variable c = sym (first_literal_of-here c.args.variable c.args.literals.now c.loop-literal.literal-index none c.loop-literal-test.true c.loop-literal.invariant c.if-literal-variable.true)

pub loop-literal-preserved : goal.loop-literal-preserved
unfolding none
loop-literal-preserved c = first_literal_of-more c.args.variable c.args.literals.now c.loop-literal.literal-index none c.loop-literal-test.true c.loop-literal.invariant c.if-literal-variable.false
