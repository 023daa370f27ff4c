-- The four questions of a conjugacy.
use Rattle.std.proofs.Common.{◌≡◌, ℕ, zero, suc, ◌≤◌, Option, Some, refl, subst, arith}
use Rattle.dd_formula.specs.LocalRule.{LocalRule}
use Rattle.dd_boxes.specs.Goals.{GoalOf}
use Rattle.dd_question.specs.{Conjugacies.ConjugacyOf, Conjugacies.IsPart, Conjugacies.EachPart, lemmas.PartLaws.part_within}

-- what holds of 1, 2, 3 and 4 holds of each k from 1 to 4
pub at_each : (P : ℕ → Type 0) (k : ℕ) → 1 ≤ k → k ≤ 4 → P 1 → P 2 → P 3 → P 4 → P k
at_each P zero low high one two three four = absurd (omega (arith, low))
at_each P (suc zero) low high one two three four = one
at_each P (suc (suc zero)) low high one two three four = two
at_each P (suc (suc (suc zero))) low high one two three four = three
at_each P (suc (suc (suc (suc zero)))) low high one two three four = four
at_each P (suc (suc (suc (suc (suc k))))) low high one two three four = absurd (omega (arith, high))

pub some_part : (c : ConjugacyOf) (k : ℕ) → 1 ≤ k → k ≤ 4 → (x : LocalRule) × (g : GoalOf) × IsPart c k x g
some_part c k low high =
    at_each (λ j. (x : LocalRule) × (g : GoalOf) × IsPart c j x g) k low high (c.from, c.image, (omega arith, refl)) (c.to, c.image_back, (omega arith, refl))
    (c.from, c.round, (omega arith, refl)) (c.to, c.round_back, (omega arith, refl))

pub each_part : (S : LocalRule → GoalOf → Type 0) (c : ConjugacyOf) → EachPart S c → (k : ℕ) (x : LocalRule) (g : GoalOf) → IsPart c k x g → S x g
each_part S c each k x g part =
    at_each (λ j. IsPart c j x g → S x g) k part.0 (part_within c k x g part) (λ p. told c.from c.image each.image p.1) (λ p. told c.to c.image_back each.image_back p.1)
    (λ p. told c.from c.round each.round p.1) (λ p. told c.to c.round_back each.round_back p.1) part
  where
    told : (y : LocalRule) (h : GoalOf) → S y h → ◌≡◌ {A = Option (LocalRule × GoalOf)} (Some (y, h)) (Some (x, g)) → S x g
    told y h said is = let same : ◌≡◌ {A = LocalRule × GoalOf} (y, h) (x, g) = cc is in subst (λ (q : LocalRule × GoalOf). S q.0 q.1) same said
