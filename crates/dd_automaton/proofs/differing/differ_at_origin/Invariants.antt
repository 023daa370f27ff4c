use Rattle.std.proofs.Common.{◌≡◌, ◌<◌, ℕ}
use Rattle.dd_pattern.specs.Tile.{tile_look}
use Rattle.dd_expansion.specs.Terms.{origin_at}
use Rattle.dd_formula.specs.Automata.{value}
use Rattle.dd_automaton.proofs.differing.differ_at_origin.Given as goal

abbrev pub invariant-loop-node : goal.invariant-loop-node
invariant-loop-node l = (a : ℕ) → a < l.node → value l.left (tile_look l.periodic) (origin_at a) ≡ value l.right (tile_look l.periodic) (origin_at a)
