-- The expansion of each kind of formula except the atoms, and how many instances it has.
use Rattle.std.proofs.Common.{◌≡◌, ℕ, ◌+◌, List, [], ◌∷◌, ◌++◌, map, refl, ap, sym, ◌∙◌, arith}
use Rattle.std.proofs.lemmas.List.Sums.{sum_by-cons}
use Rattle.std.specs.List.{sum_by}
use Rattle.dd_lattice.specs.{declared.position.Cell.Cell, InOrder.in_order}
use Rattle.dd_topology.specs.{declared.edge.Edge.Edge, Grid.Grid}
use Rattle.dd_expansion.specs.declared.expanded.Expanded.{TheFolds.fold-roll-Expanded, TheOpen.Expanded-F}
use Rattle.dd_expansion.specs.declared.formulas.{BallOf.BallOf, Formula.Formula}
use Rattle.dd_expansion.specs.declared.formulas.Formula.{TheFolds.fold-roll-Formula, TheOpen.Formula-F}
use Rattle.dd_expansion.specs.Leaves.{instances, instances_step}
use Rattle.dd_expansion.specs.{Limits.formula_fits, Limits.formula_fits_step, Limits.depth, Limits.depth_step, Terms.balls_of}
use Rattle.dd_expansion.specs.Expansion.{Expansion, expansion, expansion_step, negated, any_of, both_alike}
use Rattle.dd_expansion.specs.lemmas.Layers.{instances_and, instances_or, expansion_and, expansion_or, expansion_for_all, expansion_exists, fits_and, fits_or, depth_and, depth_or}
use Rattle.dd_expansion.specs.declared.formulas.Formula.TheVariants as formula

sum_by-map : {X Y : Type 0} (f : Y → ℕ) (h : X → Y) (xs : List X) → sum_by f (map h xs) ≡ sum_by (λ x. f (h x)) xs
sum_by-map f h [] = refl
sum_by-map f h (x ∷ xs) =
    sum_by-cons f (h x) (map h xs) ∙ (ap (λ n. f (h x) + n) (sum_by-map f h xs) ∙ sym (sum_by-cons (λ x. f (h x)) x xs))

module _ (es : List Edge) (n : ℕ) (env : List Cell) where
  pub size_and : (fs : List Formula) → instances (expansion es n (formula.And fs) env) ≡ 1 + sum_by (λ f. instances (expansion es n f env)) fs
  size_and fs =
      ap instances (expansion_and es n fs env) ∙ (instances_and (map (λ f. expansion es n f env) fs) ∙ ap (λ m. 1 + m) (sum_by-map instances (λ f. expansion es n f env) fs))

  pub size_or : (fs : List Formula) → instances (expansion es n (formula.Or fs) env) ≡ 1 + sum_by (λ f. instances (expansion es n f env)) fs
  size_or fs =
      ap instances (expansion_or es n fs env) ∙ (instances_or (map (λ f. expansion es n f env) fs) ∙ ap (λ m. 1 + m) (sum_by-map instances (λ f. expansion es n f env) fs))

  pub size_for_all : (bs : List BallOf) (f : Formula) →
      instances (expansion es n (formula.ForAll bs f) env) ≡ 1 + sum_by (λ c. instances (expansion es n f (env ++ c ∷ []))) (in_order (balls_of es env bs))
  size_for_all bs f =
      let at = λ (c : Cell). expansion es n f (env ++ c ∷ []) in
      let cells = in_order (balls_of es env bs) in
      ap instances (expansion_for_all es n bs f env) ∙ (instances_and (map at cells) ∙ ap (λ m. 1 + m) (sum_by-map instances at cells))

  pub size_exists : (bs : List BallOf) (f : Formula) →
      instances (expansion es n (formula.Exists bs f) env) ≡ 1 + sum_by (λ c. instances (expansion es n f (env ++ c ∷ []))) (in_order (balls_of es env bs))
  size_exists bs f =
      let at = λ (c : Cell). expansion es n f (env ++ c ∷ []) in
      let cells = in_order (balls_of es env bs) in
      ap instances (expansion_exists es n bs f env) ∙ (instances_or (map at cells) ∙ ap (λ m. 1 + m) (sum_by-map instances at cells))

  pub expansion_not : (f : Formula) → expansion es n (formula.Not f) env ≡ negated (expansion es n f env)
  expansion_not f =
      ap (λ h. expansion es n h env) (sym (formula.rolls-Not f)) ∙ ap (λ x. x env) (fold-roll-Formula Expansion (expansion_step es n) (Formula-F.Not f))

  pub expansion_implies : (f g : Formula) → expansion es n (formula.Implies f g) env ≡ any_of (negated (expansion es n f env) ∷ expansion es n g env ∷ [])
  expansion_implies f g =
      ap (λ h. expansion es n h env) (sym (formula.rolls-Implies f g)) ∙ ap (λ x. x env) (fold-roll-Formula Expansion (expansion_step es n) (Formula-F.Implies f g))

  pub expansion_iff : (f g : Formula) → expansion es n (formula.Iff f g) env ≡ both_alike (expansion es n f env) (expansion es n g env)
  expansion_iff f g =
      ap (λ h. expansion es n h env) (sym (formula.rolls-Iff f g)) ∙ ap (λ x. x env) (fold-roll-Formula Expansion (expansion_step es n) (Formula-F.Iff f g))

  pub size_not : (f : Formula) → instances (expansion es n (formula.Not f) env) ≡ 1 + instances (expansion es n f env)
  size_not f = ap instances (expansion_not f) ∙ fold-roll-Expanded ℕ instances_step (Expanded-F.Not (expansion es n f env))

  pub size_implies : (f g : Formula) → instances (expansion es n (formula.Implies f g) env) ≡ 2 + (instances (expansion es n f env) + instances (expansion es n g env))
  size_implies f g =
      let x = expansion es n f env in
      let y = expansion es n g env in
      let whole = ap instances (expansion_implies f g) ∙ fold-roll-Expanded ℕ instances_step (Expanded-F.Or (negated x ∷ y ∷ [])) in
      let first = fold-roll-Expanded ℕ instances_step (Expanded-F.Not x) in
      omega (arith, whole, first)

  pub size_iff : (f g : Formula) → instances (expansion es n (formula.Iff f g) env) ≡ 1 + (instances (expansion es n f env) + instances (expansion es n g env))
  size_iff f g = ap instances (expansion_iff f g) ∙ fold-roll-Expanded ℕ instances_step (Expanded-F.Iff (expansion es n f env) (expansion es n g env))

-- `formula_fits` gives a disjunction the same value as the conjunction of the same parts, and an existential formula the same value as the universal
-- one with the same balls and body. The lemmas after this module say the same of their depths.
module _ (g : Grid) (n : ℕ) where
  pub fits_or_alike : (fs : List Formula) (scope : ℕ) → formula_fits g n (formula.Or fs) scope ≡ formula_fits g n (formula.And fs) scope
  fits_or_alike fs scope = fits_or g n fs scope ∙ sym (fits_and g n fs scope)

  pub fits_exists_alike : (bs : List BallOf) (f : Formula) (scope : ℕ) → formula_fits g n (formula.Exists bs f) scope ≡ formula_fits g n (formula.ForAll bs f) scope
  fits_exists_alike bs f scope =
      ap (λ h. formula_fits g n h scope) (sym (formula.rolls-Exists bs f)) ∙ (ap (λ x. x scope) (fold-roll-Formula _ (formula_fits_step g n) (Formula-F.Exists bs f))
      ∙ (sym (ap (λ x. x scope) (fold-roll-Formula _ (formula_fits_step g n) (Formula-F.ForAll bs f))) ∙ ap (λ h. formula_fits g n h scope) (formula.rolls-ForAll bs f)))

pub depth_or_alike : (fs : List Formula) → depth (formula.Or fs) ≡ depth (formula.And fs)
depth_or_alike fs = depth_or fs ∙ sym (depth_and fs)

pub depth_exists_alike : (bs : List BallOf) (f : Formula) → depth (formula.Exists bs f) ≡ depth (formula.ForAll bs f)
depth_exists_alike bs f =
    ap depth (sym (formula.rolls-Exists bs f)) ∙ (fold-roll-Formula ℕ depth_step (Formula-F.Exists bs f) ∙ (sym (fold-roll-Formula ℕ depth_step (Formula-F.ForAll bs f)) ∙ ap depth (formula.rolls-ForAll bs f)))

pub ruleset expansion_layers = (
  expansion_and,
  expansion_or,
  expansion_for_all,
  expansion_exists,
  expansion_not,
  expansion_implies,
  expansion_iff,
  size_and,
  size_or,
  size_for_all,
  size_exists,
  size_not,
  size_implies,
  size_iff,
  fits_or_alike,
  fits_exists_alike,
  depth_or_alike,
  depth_exists_alike,
)
