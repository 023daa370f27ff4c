-- The guarded formula of a well-formed formula is well formed too, if it isn't too deep.
use Rattle.std.proofs.Common.{◌≡◌, ◌<◌, ℕ, Bool, true, List, [], ◌∷◌, map, ap, sym, ◌∙◌, arith}
use Rattle.std.proofs.lemmas.{Bool.and_from, Bool.lt-ltb, List.Folds.list_all-map}
use Rattle.std.specs.{Prelude.◌||◌, Prelude.not, Prelude.nat_lt, List.list_all, List.filter, List.range_with_len}
use Rattle.dd_topology.specs.{Grid.Grid, Sets.SymbolSets, Sets.allows}
use Rattle.dd_expansion.specs.declared.formulas.Formula.{Formula, TheFolds.fold-roll-Formula}
use Rattle.dd_expansion.specs.declared.formulas.Formula.TheOpen.{Formula-F}
use Rattle.dd_expansion.specs.Limits.{formula_fits, formula_fits_step, depth, depth_step}
use Rattle.dd_expansion.specs.lemmas.{Layers.fits_and, Layers.fits_or, ListTests.list_all-weaker}
use Rattle.dd_maps.specs.Guarded.{here, symbol_is, allowed_symbols, guard, allows_all, guarded_nodes, with_guards, guarded}
use Rattle.dd_maps.specs.lemmas.KeptTests.{all_kept}
use Rattle.dd_formula.specs.lemmas.ReachLaws.{all_numbers}
use Rattle.dd_values.specs.lemmas.Booleans.{or_true}
use Rattle.dd_expansion.specs.declared.formulas.Formula.TheVariants as v

pub range_all : (p : ℕ → Bool) (n : ℕ) → ((a : ℕ) → a < n → p a ≡ true) → list_all p (range_with_len 0 n) ≡ true
range_all p n each = all_numbers p 0 n (λ a below. each a (omega arith))

kept_all : (p q : ℕ → Bool) (n : ℕ) → ((a : ℕ) → a < n → p a ≡ true) → list_all p (filter q (range_with_len 0 n)) ≡ true
kept_all p q n each =
    all_kept p q (range_with_len 0 n)
    ∙ list_all-weaker p (λ a. not (q a) || p a) (λ a h. ap (λ b. not (q a) || b) h ∙ or_true (not (q a))) (range_with_len 0 n) (range_all p n each)

-- if `formula_fits` holds of the formula, it holds of the guarded formula: each symbol and each node that a guard names exists
module _ (g : Grid) (s : SymbolSets) where
  pub fits_symbol : (t : ℕ) → formula_fits g s.symbols (symbol_is t) 1 ≡ nat_lt t s.symbols
  fits_symbol t =
      ap (λ f. formula_fits g s.symbols f 1) (sym (v.rolls-Symbol here t))
      ∙ ap (λ h. h 1) (fold-roll-Formula (ℕ → Bool) (formula_fits_step g s.symbols) (Formula-F.Symbol here t))

  fits_node : (a : ℕ) → formula_fits g s.symbols (v.Node here a) 1 ≡ nat_lt a g.nodes
  fits_node a =
      ap (λ f. formula_fits g s.symbols f 1) (sym (v.rolls-Node here a))
      ∙ ap (λ h. h 1) (fold-roll-Formula (ℕ → Bool) (formula_fits_step g s.symbols) (Formula-F.Node here a))

  fits_other : (a : ℕ) → formula_fits g s.symbols (v.Not (v.Node here a)) 1 ≡ nat_lt a g.nodes
  fits_other a =
      ap (λ f. formula_fits g s.symbols f 1) (sym (v.rolls-Not (v.Node here a)))
      ∙ (ap (λ h. h 1) (fold-roll-Formula (ℕ → Bool) (formula_fits_step g s.symbols) (Formula-F.Not (v.Node here a))) ∙ fits_node a)

  guard_fits : (a : ℕ) → a < g.nodes → formula_fits g s.symbols (guard s a) 1 ≡ true
  guard_fits a below =
      fits_or g s.symbols (v.Not (v.Node here a) ∷ map symbol_is (allowed_symbols s a)) 1
      ∙ and_from _ _ (fits_other a ∙ lt-ltb a g.nodes below)
      (list_all-map (λ f. formula_fits g s.symbols f 1) symbol_is (allowed_symbols s a)
      ∙ kept_all (λ t. formula_fits g s.symbols (symbol_is t) 1) (allows s a) s.symbols (λ t low. fits_symbol t ∙ lt-ltb t s.symbols low))

  with_fits : (f : Formula) (gs : List Formula) → formula_fits g s.symbols f 1 ≡ true → list_all (λ h. formula_fits g s.symbols h 1) gs ≡ true →
      formula_fits g s.symbols (with_guards f gs) 1 ≡ true
  with_fits f [] one all = one
  with_fits f (h ∷ gs) one all = fits_and g s.symbols (f ∷ h ∷ gs) 1 ∙ and_from _ _ one all

  pub guarded_fits : (f : Formula) → formula_fits g s.symbols f 1 ≡ true → formula_fits g s.symbols (guarded s g.nodes f) 1 ≡ true
  guarded_fits f one =
      with_fits f (map (guard s) (guarded_nodes s g.nodes)) one
      (list_all-map (λ h. formula_fits g s.symbols h 1) (guard s) (guarded_nodes s g.nodes)
      ∙ kept_all (λ a. formula_fits g s.symbols (guard s a) 1) (λ a. not (allows_all s a)) g.nodes guard_fits)

-- a formula `symbol_is t` has no parts, so its depth is 0
pub depth_symbol : (t : ℕ) → depth (symbol_is t) ≡ 0
depth_symbol t = ap depth (sym (v.rolls-Symbol here t)) ∙ fold-roll-Formula ℕ depth_step (Formula-F.Symbol here t)
