use Rattle.std.proofs.Common.{◌≡◌, ℕ, ◌<◌, true}
use Rattle.dd_lattice.specs.Cells.{cell}
use Rattle.dd_pattern.specs.Tile.{tile_look}
use Rattle.dd_formula.specs.LocalRule.{is_true}
use Rattle.dd_boxes.specs.Boxes.{origin}
use Rattle.dd_verify.proofs.configurations.is_broken.Given as goal

-- the rule is true at each node of the origin that the loop has passed
abbrev pub invariant-loop-node : goal.invariant-loop-node
invariant-loop-node l = (a : ℕ) → a < l.node → is_true l.rule (cell origin a) (tile_look l.periodic) ≡ true
