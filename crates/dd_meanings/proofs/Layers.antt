-- The meaning and the depth of a formula, from those of its parts.
use Rattle.std.proofs.Common.{◌≡◌, ℕ, ◌+◌, ◌≤◌, ◌<◌, List, [], ◌∷◌, ◌++◌, map, drop, length, slice_index_or, sym, ap, ◌∙◌, arith}
use Rattle.std.proofs.lemmas.Simd.{map-map}
use Rattle.dd_meanings.specs.Tree.{Word, Ball, Quantifier, Join, Formula as Written, Formula-F as Written-F, fold-roll-Formula, Context}
use Rattle.dd_written.specs.declared.tree.Formula.TheVariants as v
use Rattle.dd_written.specs.Formulas.{tree_depth, tree_depth_step, chain_depth}
use Rattle.dd_expansion.specs.declared.formulas.Formula.{Formula, roll-Formula}
use Rattle.dd_expansion.specs.declared.formulas.Formula.TheVariants as meant
use Rattle.dd_expansion.specs.declared.formulas.Formula.TheOpen.{Formula-F}
use Rattle.dd_meanings.specs.Formulas.{implied_of, joined_of, formula_step, formula_of}
use Rattle.dd_meanings.proofs.Nothing.{parts}

pub formula_chain : (x : Context) (j : Join) (fs : List Written) (scope : List Word) → formula_of x (v.Chain j fs) scope ≡ joined_of j (map (λ f. formula_of x f scope) fs)
formula_chain x j fs scope =
    ap (λ f. formula_of x f scope) (sym (v.rolls-Chain j fs))
    ∙ (ap (λ (h : List Word → Formula). h scope) (fold-roll-Formula (List Word → Formula) (formula_step x) (Written-F.Chain j fs)) ∙ ap (joined_of j) (map-map (λ (h : List Word → Formula). h scope) (formula_of x) fs))

-- the last two parts of a chain of `->` may be joined first
pub implied_last : (fs : List Formula) (f g : Formula) → implied_of (fs ++ f ∷ [] ++ g ∷ []) ≡ implied_of (fs ++ meant.Implies f g ∷ [])
implied_last [] f g = meant.rolls-Implies f g
implied_last (h ∷ []) f g = ap (λ (whole : Formula). roll-Formula (Formula-F.Implies h whole)) (meant.rolls-Implies f g)
implied_last (h ∷ k ∷ fs) f g = ap (λ (whole : Formula). roll-Formula (Formula-F.Implies h whole)) (implied_last (k ∷ fs) f g)

-- the depth of a formula, from the depths of its parts
pub depth_chain : (j : Join) (fs : List Written) → tree_depth (v.Chain j fs) ≡ chain_depth j (length (map tree_depth fs)) 0 (map tree_depth fs)
depth_chain j fs = ap tree_depth (sym (v.rolls-Chain j fs)) ∙ fold-roll-Formula ℕ tree_depth_step (Written-F.Chain j fs)

pub depth_quantified : (q : Quantifier) (w : Word) (balls : List Ball) (f : Written) → tree_depth (v.Quantified q w balls f) ≡ 1 + tree_depth f
depth_quantified q w balls f = ap tree_depth (sym (v.rolls-Quantified q w balls f)) ∙ fold-roll-Formula ℕ tree_depth_step (Written-F.Quantified q w balls f)

-- Let D(i) be the greatest depth that part i and the later parts reach in a chain. If k + D(i) is at most 64, then k plus the depth of part i itself
-- is at most 64, and so is k + D(i + 1).
pub depth_from : (j : Join) (n i k : ℕ) (fs : List Written) (f : Written) → i < length fs → f ≡ slice_index_or fs i f → k + chain_depth j n i (map tree_depth (drop i fs)) ≤ 64
    → (k + tree_depth f ≤ 64) × (k + chain_depth j n (i + 1) (map tree_depth (drop (i + 1) fs)) ≤ 64)
depth_from j n i k fs f lt at le = grind (arith, parts)
