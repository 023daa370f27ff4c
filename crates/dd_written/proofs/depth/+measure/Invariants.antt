use Rattle.std.proofs.Common.{◌≡◌, length, map, drop, max}
use Rattle.dd_written.specs.Formulas.{tree_depth, chain_depth, cut_depth}
use Rattle.dd_written.proofs.depth.+measure.Given as goal

abbrev pub invariant-deepest-loop-index : goal.invariant-deepest-loop-index
invariant-deepest-loop-index l =
    max l.deepest (cut_depth (chain_depth l.join (length l.parts) l.index (map tree_depth (drop l.index l.parts)))) ≡ cut_depth (chain_depth l.join (length l.parts) 0 (map tree_depth l.parts))
