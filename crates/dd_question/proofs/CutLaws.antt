-- To cut a count off at a limit is to replace it by limit + 1 if it is greater than the limit. The result exceeds the limit exactly when the whole
-- count does. In particular, this holds for the upper bound for the number of a box question's clauses.
use Rattle.std.proofs.{Common.◌≡◌, Common.ℕ, Common.max, Common.ap, Common.◌∙◌, Common.arith, lemmas.Bool.Decides.nat_tests}
use Rattle.std.specs.Prelude.{nat_lt}
use Rattle.dd_values.specs.declared.limits.Limits.{Limits}
use Rattle.dd_formula.specs.{LocalRule.LocalRule, Counts.cut, Counts.largest_clauses}
use Rattle.dd_boxes.specs.{Goals.GoalOf, Counts.goal_clauses, Counts.most_clauses, Boxes.goal_reach}
use Rattle.dd_question.specs.Boxes.{clauses_of, is_long}

passes_alike : (l n : ℕ) → nat_lt l (cut l n) ≡ nat_lt l n
passes_alike l n = grind (arith, nat_tests)

pub passes : (l n count : ℕ) → count ≡ cut l n → nat_lt l count ≡ nat_lt l n
passes l n count is = ap (nat_lt l) is ∙ passes_alike l n

pub long_is : (l : Limits) (x : LocalRule) (g : GoalOf) (radius far count : ℕ) → radius ≡ max l.radius far → far ≡ goal_reach g →
    count ≡ cut most_clauses (largest_clauses x (goal_clauses g) radius l.period) → nat_lt most_clauses count ≡ is_long l x g
long_is l x g radius far count greater reaches is =
    let most : radius ≡ max l.radius (goal_reach g) = greater ∙ ap (max l.radius) reaches in
    passes most_clauses (clauses_of l x g) count (is ∙ ap (λ e. cut most_clauses (largest_clauses x (goal_clauses g) e l.period)) most)
