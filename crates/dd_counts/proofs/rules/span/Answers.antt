use Rattle.std.proofs.Common.{◌≡◌, ◌≤◌, ◌+◌, ℕ, ℤ, pos, ◌-ℤ◌, to_z, of_z, w32, w64, Fits, ap, sym, ◌∙◌, arith, rules}
use Rattle.std.proofs.lemmas.Int.{ints}
use Rattle.std.specs.{Prelude.unsigned_abs, List.flat_map, List.range_with_len, Int.int_min, Int.int_max}
use Rattle.dd_lattice.specs.declared.position.Cell.{Cell}
use Rattle.dd_formula.specs.{LocalRule.cells_at, Reach.all_cells, lemmas.Ranges.fold_push}
use Rattle.dd_counts.specs.Rules.{least_x, greatest_x}
use Rattle.dd_counts.proofs.rules.span.Goals as goal

gap : (m n : ℕ) → Fits w32 m → Fits w32 n → unsigned_abs (to_z w64 (of_z w64 (to_z w64 (of_z w64 (to_z w32 m)) -ℤ to_z w64 (of_z w64 (to_z w32 n))))) ≡ unsigned_abs (to_z w32 m -ℤ to_z w32 n)
gap m n p q = omega (arith, ints)

small : (m n : ℕ) → Fits w32 m → Fits w32 n → unsigned_abs (to_z w32 m -ℤ to_z w32 n) + 1 ≤ 4294967296
small m n p q = omega (arith, ints)

pub loop-node-preserved : goal.loop-node-preserved
loop-node-preserved c =
    let rule = c.args.rule.now in
    let n = c.loop-node.node in
    let lo : ℤ = to_z w32 c.loop-node.least-bits in
    let hi : ℤ = to_z w32 c.loop-node.greatest-bits in
    let low : to_z w32 (of_z w32 c.least_x-least.result) ≡ c.least_x-least.result = search rules in
    let high : to_z w32 (of_z w32 c.greatest_x-greatest.result) ≡ c.greatest_x-greatest.result = search rules in record {
      least =
          low
          ∙ (c.least_x-least.ensures
          ∙ (ap (least_x lo) c.reads.ensures.value
          ∙ (ap (λ z. least_x z (cells_at rule n)) c.loop-node.invariant.least ∙ sym (fold_push (λ z (d : Cell). int_min z d.position.x) (pos 0) (cells_at rule) n))));
      greatest =
          high
          ∙ (c.greatest_x-greatest.ensures
          ∙ (ap (greatest_x hi) c.reads-in-loop-node.ensures.value
          ∙ (ap (λ z. greatest_x z (cells_at rule n)) c.loop-node.invariant.greatest ∙ sym (fold_push (λ z (d : Cell). int_max z d.position.x) (pos 0) (cells_at rule) n))));
    }

pub returns : goal.returns
returns c =
    let rule = c.args.rule.now in
    let lo = c.loop-node.least-bits in
    let hi = c.loop-node.greatest-bits in
    let all : c.loop-node.node ≡ rule.nodes = omega (arith, c.loop-node-test.false, c.loop-node.auto.node-end, c.nodes-node-end.ensures.value) in
    let cells = ap (λ k. flat_map (cells_at rule) (range_with_len 0 k)) all in
    let least : to_z w32 lo ≡ least_x (pos 0) (all_cells rule) = c.loop-node.invariant.least ∙ ap (least_x (pos 0)) cells in
    let greatest : to_z w32 hi ≡ greatest_x (pos 0) (all_cells rule) = c.loop-node.invariant.greatest ∙ ap (greatest_x (pos 0)) cells in
    let is : c.unsigned_abs.result ≡ unsigned_abs (to_z w32 hi -ℤ to_z w32 lo) = c.unsigned_abs.ensures.value ∙ gap hi lo c.loop-node.auto.greatest-fits c.loop-node.auto.least-fits in record {
      value =
          ap (λ k. k + 1) (is
          ∙ (ap (λ z. unsigned_abs (z -ℤ to_z w32 lo)) greatest ∙ ap (λ z. unsigned_abs (greatest_x (pos 0) (all_cells rule) -ℤ z)) least));
      small = let few = small hi lo c.loop-node.auto.greatest-fits c.loop-node.auto.least-fits in omega (arith, is, few);
    }
