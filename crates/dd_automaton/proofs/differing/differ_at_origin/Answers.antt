use Rattle.std.proofs.Common.{◌≡◌, ◌≤◌, inl, inr, sym, ◌∙◌, subst, arith}
use Rattle.std.proofs.{lemmas.Grind.common_steps, Math.Nat.eq-or-lt_of_le}
use Rattle.dd_pattern.specs.Tile.{tile_look}
use Rattle.dd_expansion.specs.Terms.{origin_at}
use Rattle.dd_formula.specs.Automata.{value}
use Rattle.dd_automaton.proofs.differing.differ_at_origin.Goals as goal

pub loop-node-preserved : goal.loop-node-preserved
loop-node-preserved c = λ a below.
    let f = c.args.left.now in
    let g = c.args.right.now in
    let look = tile_look c.args.periodic.now in
    let node = c.loop-node.node in
    let here : value f look (origin_at node) ≡ value g look (origin_at node) = sym c.in_ok-first.ensures ∙ (c.if-first-second.false ∙ c.in_ok-second.ensures) in
    let low : a ≤ node = omega (arith, below) in
    elim (eq-or-lt_of_le low) [
      | inl same ↦ subst (λ b. value f look (origin_at b) ≡ value g look (origin_at b)) (sym same) here
      | inr less ↦ c.loop-node.invariant a less
    ]

pub returns-then-first-second : goal.returns-then-first-second
returns-then-first-second c = grind (arith, common_steps)
