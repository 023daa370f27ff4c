use Rattle.std.proofs.{Common.◌≡◌, Common.false, Common.take, Common.arith, Common.refl, Common.ap, Common.◌∙◌, lemmas.List.take_all}
use Rattle.std.proofs.lemmas.List.Elements.{All-more}
use Rattle.dd_clause.specs.{declared.clause.Literal.Literal, Clauses.ClauseList, Clauses.IsLiteralInRange}
use Rattle.dd_clause.proofs.cnf.Cnf.is_in_range.Goals as goal

none : Literal
none = record { variable = 0; positive = false }

pub loop-literal-preserved : goal.loop-literal-preserved
unfolding none
loop-literal-preserved c = All-more (IsLiteralInRange c.self.inside.variables) c.literals-literal-items.result.now c.loop-literal.literal-index none c.loop-literal-test.true c.loop-literal.invariant (omega arith, omega arith)

pub returns : goal.returns
returns c =
    let variables : c.self.inside.variables ≡ c.args.self.now.variables = ap (λ (v : ClauseList). v.variables) c.self.view_is in
    let whole : take c.loop-literal.literal-index c.literals-literal-items.result.now ≡ c.args.clause.now = take_all c.loop-literal.literal-index c.literals-literal-items.result.now (omega arith) ∙ c.literals-literal-items.ensures in
    (λ t. rw (variables, whole) at c.loop-literal.invariant, λ h. refl)
