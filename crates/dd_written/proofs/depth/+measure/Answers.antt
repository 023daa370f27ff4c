use Rattle.std.proofs.Common.{◌≡◌, ℕ, ◌+◌, ◌<◌, List, ◌∷◌, map, length, drop, slice_index_or, sym, ap, ◌∙◌, max, arith}
use Rattle.std.proofs.lemmas.List.{drop_more}
use Rattle.dd_written.specs.{Tree.Join, Tree.Formula, Formulas.tree_depth, Formulas.signs_over, Formulas.chain_depth}
use Rattle.dd_written.proofs.depth.+measure.Goals as goal

-- the depth that the parts from part i on reach is the greater of two: the depth that part i reaches, and the depth that the later parts reach
chain_more : (j : Join) (n i : ℕ) (fs : List Formula) (f : Formula) → i < length fs → f ≡ slice_index_or fs i f
    → chain_depth j n i (map tree_depth (drop i fs)) ≡ max (signs_over j n i + tree_depth f) (chain_depth j n (i + 1) (map tree_depth (drop (i + 1) fs)))
chain_more j n i fs f lt is = ap (λ (gs : List Formula). chain_depth j n i (map tree_depth gs)) (drop_more fs i f lt ∙ ap (λ (g : Formula). g ∷ drop (i + 1) fs) (sym is))

pub deepest-loop-index-preserved : goal.deepest-loop-index-preserved
deepest-loop-index-preserved t c =
    let parts = c.args.parts.now in
    omega (arith, chain_more c.args.join (length parts) c.loop-index.index parts c.index-parts-index.result c.loop-index-test.true c.index-parts-index.is)
