-- No box question of a conjugacy has a number over 4.
use Rattle.std.proofs.{lemmas.Option.slice_get_within, Common.arith, Common.◌-◌, Common.ℕ, Common.◌<◌, Common.◌≤◌}
use Rattle.dd_boxes.specs.Goals.{GoalOf}
use Rattle.dd_question.specs.Conjugacies.{ConjugacyOf, IsPart, parts}
use Rattle.dd_formula.specs.LocalRule.{LocalRule}

pub part_within : (c : ConjugacyOf) (k : ℕ) (x : LocalRule) (g : GoalOf) → IsPart c k x g → k ≤ 4
part_within c k x g part =
    let within : k - 1 < 4 = slice_get_within (parts c) (k - 1) (x, g) part.1 in
    omega (arith, within)
