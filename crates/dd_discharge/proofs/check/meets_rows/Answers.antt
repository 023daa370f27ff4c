use Rattle.std.proofs.Common.{◌≡◌, ◌+◌, ◌*◌, ◌<◌, ◌≤◌, ◌^◌, ℕ, ℤ, pos, ◌+ℤ◌, ◌*ℤ◌, ◌≤ℤ◌, ◌<ℤ◌, List, length, slice_index_or, to_z, of_z, sym, ap, subst, ◌∙◌, below_more, arith, rules}
use Rattle.std.proofs.{lemmas.Grind.elements, Math.Nat.mul-le-mul_right}
use Rattle.std.proofs.lemmas.Int.{ints, to_z-of_z, to_z_pos}
use Rattle.std.specs.Int.{w128}
use mir.Val.{SFits}
use Rattle.dd_rows.specs.declared.rows.Row.{Row}
use Rattle.dd_discharge.specs.Amounts.{total_below, row_in, coefficient_in, column_value, MeetRows}
use Rattle.dd_discharge.proofs.{Tabulated.row_is, Sides.side_is, Sides.limit_small, Sides.limit_fits, Sides.lt_true, Sides.lt_false}
use Rattle.dd_discharge.proofs.check.meets_rows.Goals as goal

pub overflow_cast-limit-in-loop-k-2 : goal.overflow_cast-limit-in-loop-k-2
overflow_cast-limit-in-loop-k-2 c =
    let rows = c.args.rows.now in
    let k = c.loop-k.k in
    let r = c.index-rows-k.result in
    let is = row_is rows k r c.loop-k-test.true c.index-rows-k.is in
    let small = c.requires.rows.bounds k c.loop-k-test.true in
    let same = ap (λ (s : Row). s.bound) is in
    let low : r.bound ≤ 4000 = omega (arith, small, same) in
    let word : c.args.common < 2 ^ 64 = search rules in
    limit_fits c.args.common r.bound word low

pub returns-then-left_side-limit-clause-no : goal.returns-then-left_side-limit-clause-no
returns-then-left_side-limit-clause-no c = λ _ m.
    let rows = c.args.rows.now in
    let k = c.loop-k.k in
    let r = c.index-rows-k.result in
    let is = row_is rows k r c.loop-k-test.true c.index-rows-k.is in
    let small = c.requires.rows.bounds k c.loop-k-test.true in
    let same = ap (λ (s : Row). s.bound) is in
    let low : r.bound ≤ 4000 = omega (arith, small, same) in
    let word : c.args.common < 2 ^ 64 = search rules in
    let fits : SFits w128 c.left_side.result = search rules in
    let limit : to_z w128 (c.args.common * r.bound) ≡ pos (c.args.common * (row_in rows k).bound) =
    to_z_pos w128 (c.args.common * r.bound) (let l = limit_small c.args.common r.bound word low in omega (arith, l)) ∙ ap (λ (s : Row). pos (c.args.common * s.bound)) is in
    let left : to_z w128 (of_z w128 c.left_side.result) ≡ total_below (λ j. coefficient_in rows k j *ℤ column_value (pos c.args.held) c.args.amounts.now j) c.args.columns =
    to_z-of_z w128 c.left_side.result fits ∙ (c.left_side.ensures.value
    ∙ side_is rows c.args.columns (pos c.args.held) c.args.amounts.now k c.as_slice.result.now (c.as_slice.ensures ∙ ap (λ (s : Row). s.coefficients) is) (c.requires.rows.sizes k c.loop-k-test.true)) in
    let over = lt_true (to_z w128 (c.args.common * r.bound)) (to_z w128 (of_z w128 c.left_side.result)) c.if-left_side-limit.true in
    let under = m.each k c.loop-k-test.true in
    absurd (omega (arith, ints, over, under, left, limit))

pub loop-k-preserved : goal.loop-k-preserved
loop-k-preserved c =
    let rows = c.args.rows.now in
    let k = c.loop-k.k in
    let r = c.index-rows-k.result in
    let is = row_is rows k r c.loop-k-test.true c.index-rows-k.is in
    let small = c.requires.rows.bounds k c.loop-k-test.true in
    let same = ap (λ (s : Row). s.bound) is in
    let low : r.bound ≤ 4000 = omega (arith, small, same) in
    let word : c.args.common < 2 ^ 64 = search rules in
    let fits : SFits w128 c.left_side.result = search rules in
    let limit : to_z w128 (c.args.common * r.bound) ≡ pos (c.args.common * (row_in rows k).bound) =
    to_z_pos w128 (c.args.common * r.bound) (let l = limit_small c.args.common r.bound word low in omega (arith, l)) ∙ ap (λ (s : Row). pos (c.args.common * s.bound)) is in
    let left : to_z w128 (of_z w128 c.left_side.result) ≡ total_below (λ j. coefficient_in rows k j *ℤ column_value (pos c.args.held) c.args.amounts.now j) c.args.columns =
    to_z-of_z w128 c.left_side.result fits ∙ (c.left_side.ensures.value
    ∙ side_is rows c.args.columns (pos c.args.held) c.args.amounts.now k c.as_slice.result.now (c.as_slice.ensures ∙ ap (λ (s : Row). s.coefficients) is) (c.requires.rows.sizes k c.loop-k-test.true)) in
    let under = lt_false (to_z w128 (c.args.common * r.bound)) (to_z w128 (of_z w128 c.left_side.result)) c.if-left_side-limit.false in
    below_more _ _ c.loop-k.invariant (omega (arith, ints, under, left, limit))

pub left_side-requires-clause-units : goal.left_side-requires-clause-units
left_side-requires-clause-units c = grind (arith, elements)
