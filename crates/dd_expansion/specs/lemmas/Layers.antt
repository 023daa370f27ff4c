-- Laws of functions that are defined as folds over trees. They give the value at a conjunction or disjunction from the values at its parts, and the
-- expansion of a quantifier from the expansions of its body.
use Rattle.std.proofs.Common.{◌≡◌, ℕ, ◌+◌, length, Bool, List, [], ◌∷◌, ◌++◌, map, refl, ap, sym, ◌∙◌}
use Rattle.std.proofs.lemmas.List.{length-map, Folds.list_all-map, Folds.flat_map-map}
use Rattle.std.proofs.lemmas.{List.Sums.sum_by-cons, List.Sums.sum-map, Simd.map-map}
use Rattle.std.specs.{Prelude.is_some, List.list_all, List.list_any, List.flat_map, List.sum, List.sum_by}
use Rattle.dd_lattice.specs.{declared.position.Cell.Cell, InOrder.in_order}
use Rattle.dd_topology.specs.{declared.edge.Edge.Edge, Grid.Grid}
use Rattle.dd_pattern.specs.Reading.{Look}
use Rattle.dd_expansion.specs.declared.expanded.Expanded.{Expanded, TheFolds.fold-roll-Expanded}
use Rattle.dd_expansion.specs.declared.{expanded.Expanded.TheOpen.Expanded-F, formulas.BallOf.BallOf}
use Rattle.dd_expansion.specs.declared.formulas.Formula.{Formula, TheFolds.fold-roll-Formula}
use Rattle.dd_expansion.specs.declared.formulas.Formula.TheOpen.{Formula-F}
use Rattle.dd_expansion.specs.Leaves.{holds, holds_step, LeafTest, leaves_pass, leaves_pass_step, given, leaf_cells, leaf_cells_step, total, instances, instances_step, clause_count, clause_count_step}
use Rattle.dd_expansion.specs.Expansion.{Expansion, expansion, expansion_step}
use Rattle.dd_expansion.specs.Limits.{formula_fits, formula_fits_step, list_depth, depth, depth_step}
use Rattle.dd_expansion.specs.Terms.{balls_of}
use Rattle.dd_values.specs.lemmas.Lists.{list_any-map}
use Rattle.dd_expansion.specs.declared.expanded.Expanded.TheVariants as expanded
use Rattle.dd_expansion.specs.declared.formulas.Formula.TheVariants as formula

-- expansions

pub holds_and : (es : List Expanded) (look : Look) → holds (expanded.And es) look ≡ list_all (λ e. holds e look) es
holds_and es look =
    ap (λ e. holds e look) (sym (expanded.rolls-And es))
    ∙ (ap (λ h. h look) (fold-roll-Expanded (Look → Bool) holds_step (Expanded-F.And es)) ∙ list_all-map (λ h. h look) holds es)

pub holds_or : (es : List Expanded) (look : Look) → holds (expanded.Or es) look ≡ list_any (λ e. holds e look) es
holds_or es look =
    ap (λ e. holds e look) (sym (expanded.rolls-Or es))
    ∙ (ap (λ h. h look) (fold-roll-Expanded (Look → Bool) holds_step (Expanded-F.Or es)) ∙ list_any-map (λ h. h look) holds es)

pub leaves_pass_and : (test : LeafTest) (es : List Expanded) → leaves_pass test (expanded.And es) ≡ list_all (leaves_pass test) es
leaves_pass_and test es =
    ap (leaves_pass test) (sym (expanded.rolls-And es))
    ∙ (fold-roll-Expanded Bool (leaves_pass_step test) (Expanded-F.And es) ∙ list_all-map (λ b. b) (leaves_pass test) es)

pub leaves_pass_or : (test : LeafTest) (es : List Expanded) → leaves_pass test (expanded.Or es) ≡ list_all (leaves_pass test) es
leaves_pass_or test es =
    ap (leaves_pass test) (sym (expanded.rolls-Or es))
    ∙ (fold-roll-Expanded Bool (leaves_pass_step test) (Expanded-F.Or es) ∙ list_all-map (λ b. b) (leaves_pass test) es)

pub given_and : (es : List Expanded) (look : Look) → given (expanded.And es) look ≡ list_all (λ e. given e look) es
given_and es look = leaves_pass_and (λ c s. is_some (look c)) es

pub given_or : (es : List Expanded) (look : Look) → given (expanded.Or es) look ≡ list_all (λ e. given e look) es
given_or es look = leaves_pass_or (λ c s. is_some (look c)) es

pub leaf_cells_and : (es : List Expanded) → leaf_cells (expanded.And es) ≡ flat_map leaf_cells es
leaf_cells_and es =
    ap leaf_cells (sym (expanded.rolls-And es))
    ∙ (fold-roll-Expanded (List Cell) leaf_cells_step (Expanded-F.And es) ∙ flat_map-map (λ cs. cs) leaf_cells es)

pub leaf_cells_or : (es : List Expanded) → leaf_cells (expanded.Or es) ≡ flat_map leaf_cells es
leaf_cells_or es =
    ap leaf_cells (sym (expanded.rolls-Or es))
    ∙ (fold-roll-Expanded (List Cell) leaf_cells_step (Expanded-F.Or es) ∙ flat_map-map (λ cs. cs) leaf_cells es)

pub total-sum : (ns : List ℕ) → total ns ≡ sum ns
total-sum [] = refl
total-sum (n ∷ ns) = ap (λ m. n + m) (total-sum ns) ∙ sym (sum_by-cons (λ m. m) n ns)

pub total-map : {X : Type 0} (f : X → ℕ) (xs : List X) → total (map f xs) ≡ sum_by f xs
total-map f xs = total-sum (map f xs) ∙ sum-map f xs

pub instances_and : (es : List Expanded) → instances (expanded.And es) ≡ 1 + sum_by instances es
instances_and es =
    ap instances (sym (expanded.rolls-And es)) ∙ (fold-roll-Expanded ℕ instances_step (Expanded-F.And es) ∙ ap (λ n. 1 + n) (total-map instances es))

pub instances_or : (es : List Expanded) → instances (expanded.Or es) ≡ 1 + sum_by instances es
instances_or es =
    ap instances (sym (expanded.rolls-Or es)) ∙ (fold-roll-Expanded ℕ instances_step (Expanded-F.Or es) ∙ ap (λ n. 1 + n) (total-map instances es))

joined_clauses : (es : List Expanded) → clause_count_step (Expanded-F.And (map clause_count es)) ≡ sum_by clause_count es + (length es + 1)
joined_clauses es =
    ap (λ n. total (map clause_count es) + (n + 1)) (length-map es clause_count) ∙ ap (λ n. n + (length es + 1)) (total-map clause_count es)

pub clause_count_and : (es : List Expanded) → clause_count (expanded.And es) ≡ sum_by clause_count es + (length es + 1)
clause_count_and es =
    ap clause_count (sym (expanded.rolls-And es)) ∙ (fold-roll-Expanded ℕ clause_count_step (Expanded-F.And es) ∙ joined_clauses es)

pub clause_count_or : (es : List Expanded) → clause_count (expanded.Or es) ≡ sum_by clause_count es + (length es + 1)
clause_count_or es =
    ap clause_count (sym (expanded.rolls-Or es)) ∙ (fold-roll-Expanded ℕ clause_count_step (Expanded-F.Or es) ∙ joined_clauses es)

pub ruleset holds_layers = (holds_and, holds_or, given_and, given_or)

pub ruleset leaf_cells_layers = (leaf_cells_and, leaf_cells_or)

-- formulas

pub expansion_and : (es : List Edge) (n : ℕ) (fs : List Formula) (env : List Cell) → expansion es n (formula.And fs) env ≡ expanded.And (map (λ f. expansion es n f env) fs)
expansion_and es n fs env =
    ap (λ f. expansion es n f env) (sym (formula.rolls-And fs))
    ∙ (ap (λ x. x env) (fold-roll-Formula Expansion (expansion_step es n) (Formula-F.And fs))
    ∙ (expanded.rolls-And (map (λ f. f env) (map (expansion es n) fs)) ∙ ap expanded.And (map-map (λ f. f env) (expansion es n) fs)))

pub expansion_or : (es : List Edge) (n : ℕ) (fs : List Formula) (env : List Cell) → expansion es n (formula.Or fs) env ≡ expanded.Or (map (λ f. expansion es n f env) fs)
expansion_or es n fs env =
    ap (λ f. expansion es n f env) (sym (formula.rolls-Or fs))
    ∙ (ap (λ x. x env) (fold-roll-Formula Expansion (expansion_step es n) (Formula-F.Or fs))
    ∙ (expanded.rolls-Or (map (λ f. f env) (map (expansion es n) fs)) ∙ ap expanded.Or (map-map (λ f. f env) (expansion es n) fs)))

pub expansion_for_all : (es : List Edge) (n : ℕ) (bs : List BallOf) (f : Formula) (env : List Cell) →
    expansion es n (formula.ForAll bs f) env ≡ expanded.And (map (λ c. expansion es n f (env ++ c ∷ [])) (in_order (balls_of es env bs)))
expansion_for_all es n bs f env =
    ap (λ h. expansion es n h env) (sym (formula.rolls-ForAll bs f))
    ∙ (ap (λ x. x env) (fold-roll-Formula Expansion (expansion_step es n) (Formula-F.ForAll bs f)) ∙ expanded.rolls-And _)

pub expansion_exists : (es : List Edge) (n : ℕ) (bs : List BallOf) (f : Formula) (env : List Cell) →
    expansion es n (formula.Exists bs f) env ≡ expanded.Or (map (λ c. expansion es n f (env ++ c ∷ [])) (in_order (balls_of es env bs)))
expansion_exists es n bs f env =
    ap (λ h. expansion es n h env) (sym (formula.rolls-Exists bs f))
    ∙ (ap (λ x. x env) (fold-roll-Formula Expansion (expansion_step es n) (Formula-F.Exists bs f)) ∙ expanded.rolls-Or _)

pub fits_and : (g : Grid) (n : ℕ) (fs : List Formula) (scope : ℕ) → formula_fits g n (formula.And fs) scope ≡ list_all (λ f. formula_fits g n f scope) fs
fits_and g n fs scope =
    ap (λ f. formula_fits g n f scope) (sym (formula.rolls-And fs))
    ∙ (ap (λ h. h scope) (fold-roll-Formula (ℕ → Bool) (formula_fits_step g n) (Formula-F.And fs)) ∙ list_all-map (λ h. h scope) (formula_fits g n) fs)

pub fits_or : (g : Grid) (n : ℕ) (fs : List Formula) (scope : ℕ) → formula_fits g n (formula.Or fs) scope ≡ list_all (λ f. formula_fits g n f scope) fs
fits_or g n fs scope =
    ap (λ f. formula_fits g n f scope) (sym (formula.rolls-Or fs))
    ∙ (ap (λ h. h scope) (fold-roll-Formula (ℕ → Bool) (formula_fits_step g n) (Formula-F.Or fs)) ∙ list_all-map (λ h. h scope) (formula_fits g n) fs)

pub depth_and : (fs : List Formula) → depth (formula.And fs) ≡ list_depth (map depth fs)
depth_and fs = ap depth (sym (formula.rolls-And fs)) ∙ fold-roll-Formula ℕ depth_step (Formula-F.And fs)

pub depth_or : (fs : List Formula) → depth (formula.Or fs) ≡ list_depth (map depth fs)
depth_or fs = ap depth (sym (formula.rolls-Or fs)) ∙ fold-roll-Formula ℕ depth_step (Formula-F.Or fs)
