use Rattle.std.proofs.Common.{◌≡◌, ◌<◌, ℕ, length, Bool, true, false, Some, None, if◌then◌else◌, List, take, get_or, refl, ap, sym, ◌∙◌}
use Rattle.std.proofs.lemmas.{Bool.and_from, List.Folds.list_all_more, List.Folds.list_any_more}
use Rattle.std.proofs.lemmas.List.Recursion.{and_fails_at}
use Rattle.std.specs.{Prelude.◌&&◌, Prelude.◌||◌, List.list_all, List.list_any}
use Rattle.dd_pattern.specs.Reading.{Look}
use Rattle.dd_expansion.specs.{declared.expanded.Expanded.Expanded, Leaves.given, Leaves.holds, Leaves.seen}
use Rattle.dd_expansion.specs.lemmas.Layers.{given_and, given_or, holds_and, holds_or}
use Rattle.dd_expansion.proofs.+evaluate.Goals.{evaluation::evaluate_and-then-value, evaluation::evaluate_and-else-value, evaluation::evaluate_or-then-value, evaluation::evaluate_or-else-value}
use Rattle.dd_expansion.proofs.+evaluate.Goals as goal

not_given : (b value : Bool) → None ≡ (if b then Some value else None) → b ≡ false
not_given true value h = absurd (cc)
not_given false value h = refl

is_given : (b value it : Bool) → Some it ≡ (if b then Some value else None) → (b ≡ true) × (value ≡ it)
is_given true value it h = (refl, cc)
is_given false value it h = absurd (cc)

-- `before` is the value of the parts so far, `part` the value of the next part, and `now` the value of all of these
module _ (value before part now : Bool) (is : value ≡ before) where
  true_and : value ≡ true → now ≡ part → now ≡ (before && part)
  true_and = by before is
    where
      by : (b : Bool) → value ≡ b → value ≡ true → now ≡ part → now ≡ (b && part)
      by true e h k = k
      by false e h k = absurd (cc)

  false_and : value ≡ false → now ≡ value → now ≡ (before && part)
  false_and = by before is
    where
      by : (b : Bool) → value ≡ b → value ≡ false → now ≡ value → now ≡ (b && part)
      by true e h k = absurd (cc)
      by false e h k = cc

  true_or : value ≡ true → now ≡ value → now ≡ (before || part)
  true_or = by before is
    where
      by : (b : Bool) → value ≡ b → value ≡ true → now ≡ value → now ≡ (b || part)
      by true e h k = cc
      by false e h k = absurd (cc)

  false_or : value ≡ false → now ≡ part → now ≡ (before || part)
  false_or = by before is
    where
      by : (b : Bool) → value ≡ b → value ≡ false → now ≡ part → now ≡ (b || part)
      by true e h k = absurd (cc)
      by false e h k = k

some_part_lacks : (look : Look) (parts : List Expanded) (i : ℕ) (part : Expanded) → i < length parts → part ≡ get_or parts i part → given part look ≡ false → list_all (λ e. given e look) parts ≡ false
some_part_lacks look parts i part below is h =
    and_fails_at (list_all (λ e. given e look)) (λ e. given e look) refl (λ x xs. refl) parts i part below (ap (λ e. given e look) (sym is) ∙ h)

pub expanded::Expanded::evaluate-returns-in-And : goal.expanded::Expanded::evaluate-returns-in-And
expanded::Expanded::evaluate-returns-in-And g t c =
    let look : Look = seen (g.R.Reads.symbols c.args.read.now) c.args.at.now in
    rw (c.in-And.is, given_and c.in-And.parts look, holds_and c.in-And.parts look, ← c.as_slice.ensures) c.evaluate_and.ensures

pub expanded::Expanded::evaluate-returns-in-Or : goal.expanded::Expanded::evaluate-returns-in-Or
expanded::Expanded::evaluate-returns-in-Or g t c =
    let look : Look = seen (g.R.Reads.symbols c.args.read.now) c.args.at.now in
    rw (c.in-Or.is, given_or c.in-Or.parts look, holds_or c.in-Or.parts look, ← c.as_slice-in-Or.ensures) c.evaluate_or.ensures

pub evaluation::evaluate_and-returns-in-None : goal.evaluation::evaluate_and-returns-in-None
evaluation::evaluate_and-returns-in-None g t c =
    let look : Look = seen (g.R.Reads.symbols c.args.read.now) c.args.at.now in
    let parts = c.args.parts.now in
    let part = c.part-item.result in
    let lacks = some_part_lacks look parts c.loop-part.part-index part c.loop-part-test.true c.part-item.is (not_given (given part look) (holds part look) (sym c.in-None.is ∙ c.evaluate.ensures)) in
    sym (ap (λ b. if b then Some (list_all (λ e. holds e look) parts) else None) lacks)

pub evaluation::evaluate_and-loop-part-preserved : goal.evaluation::evaluate_and-loop-part-preserved
evaluation::evaluate_and-loop-part-preserved g t c =
    let look : Look = seen (g.R.Reads.symbols c.args.read.now) c.args.at.now in
    let parts = c.args.parts.now in
    let i = c.loop-part.part-index in
    let part = c.part-item.result in
    let here = is_given (given part look) (holds part look) c.in-Some.is_true (sym c.in-Some.is ∙ c.evaluate.ensures) in
    let more = list_all_more (λ e. holds e look) parts i part c.loop-part-test.true in
    let one = ap (λ e. holds e look) (sym c.part-item.is) ∙ here.1 in (
      list_all_more (λ e. given e look) parts i part c.loop-part-test.true ∙ and_from _ _ c.loop-part.invariant.0 (ap (λ e. given e look) (sym c.part-item.is) ∙ here.0),
      elim c.if-value.branch [
        | evaluation::evaluate_and-then-value w ↦ true_and c.loop-part.value (list_all (λ e. holds e look) (take i parts)) (holds (get_or parts i part) look) c.if-value.value c.loop-part.invariant.1 w.if-value.true (w.value-is ∙ sym one) ∙ sym more
        | evaluation::evaluate_and-else-value w ↦ false_and c.loop-part.value (list_all (λ e. holds e look) (take i parts)) (holds (get_or parts i part) look) c.if-value.value c.loop-part.invariant.1 w.if-value.false w.value-is ∙ sym more
      ],
    )

pub evaluation::evaluate_or-returns-in-None : goal.evaluation::evaluate_or-returns-in-None
evaluation::evaluate_or-returns-in-None g t c =
    let look : Look = seen (g.R.Reads.symbols c.args.read.now) c.args.at.now in
    let parts = c.args.parts.now in
    let part = c.part-item.result in
    let lacks = some_part_lacks look parts c.loop-part.part-index part c.loop-part-test.true c.part-item.is (not_given (given part look) (holds part look) (sym c.in-None.is ∙ c.evaluate.ensures)) in
    sym (ap (λ b. if b then Some (list_any (λ e. holds e look) parts) else None) lacks)

pub evaluation::evaluate_or-loop-part-preserved : goal.evaluation::evaluate_or-loop-part-preserved
evaluation::evaluate_or-loop-part-preserved g t c =
    let look : Look = seen (g.R.Reads.symbols c.args.read.now) c.args.at.now in
    let parts = c.args.parts.now in
    let i = c.loop-part.part-index in
    let part = c.part-item.result in
    let here = is_given (given part look) (holds part look) c.in-Some.is_true (sym c.in-Some.is ∙ c.evaluate.ensures) in
    let more = list_any_more (λ e. holds e look) parts i part c.loop-part-test.true in
    let one = ap (λ e. holds e look) (sym c.part-item.is) ∙ here.1 in (
      list_all_more (λ e. given e look) parts i part c.loop-part-test.true ∙ and_from _ _ c.loop-part.invariant.0 (ap (λ e. given e look) (sym c.part-item.is) ∙ here.0),
      elim c.if-value.branch [
        | evaluation::evaluate_or-then-value w ↦ true_or c.loop-part.value (list_any (λ e. holds e look) (take i parts)) (holds (get_or parts i part) look) c.if-value.value c.loop-part.invariant.1 w.if-value.true w.value-is ∙ sym more
        | evaluation::evaluate_or-else-value w ↦ false_or c.loop-part.value (list_any (λ e. holds e look) (take i parts)) (holds (get_or parts i part) look) c.if-value.value c.loop-part.invariant.1 w.if-value.false (w.value-is ∙ sym one) ∙ sym more
      ],
    )
