-- The truth of a negated literal.
use Rattle.dd_clause.specs.{Clauses.is_true_under, Clauses.negation, declared.clause.Literal.Literal}
use Rattle.std.proofs.Common.{Bool, ℕ, ◌≡◌}
use Rattle.std.specs.Prelude.{not}
use Rattle.dd_values.specs.lemmas.Booleans.{if_not}

-- the negation of a literal is true exactly when the literal is false
pub is_true_under-negation : (set : ℕ → Bool) (l : Literal) → is_true_under set (negation l) ≡ not (is_true_under set l)
is_true_under-negation set l = if_not l.positive (set l.variable)
