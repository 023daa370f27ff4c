-- What the guarded formula says.
use Rattle.std.proofs.Common.{◌≡◌, ◌<◌, ℕ, Bool, true, false, List, [], ◌∷◌, map, Some, refl, ap, sym, ◌∙◌, arith}
use Rattle.std.proofs.lemmas.List.Folds.{list_all-map}
use Rattle.std.specs.{Prelude.◌==◌, Prelude.◌&&◌, Prelude.◌||◌, Prelude.not, List.list_all, List.list_any, List.range_with_len}
use Rattle.dd_lattice.specs.declared.position.Cell.{Cell}
use Rattle.dd_pattern.specs.Reading.{Look}
use Rattle.dd_topology.specs.{declared.edge.Edge.Edge, Sets.SymbolSets, Sets.allows}
use Rattle.dd_expansion.specs.declared.formulas.Formula.{Formula, TheFolds.fold-roll-Formula}
use Rattle.dd_expansion.specs.{declared.formulas.Formula.TheOpen.Formula-F, Truth.Truth, Truth.truth, Truth.truth_step, Truth.is_symbol}
use Rattle.dd_expansion.specs.lemmas.ListTests.{list_all-alike, list_any-alike, list_any-map}
use Rattle.dd_formula.specs.lemmas.AutomatonLaws.{range_at}
use Rattle.dd_maps.specs.Guarded.{here, symbol_is, allowed_symbols, guard, allows_all, guarded_nodes, with_guards, guarded}
use Rattle.dd_maps.specs.lemmas.KeptTests.{all_kept, any_kept, all_but_one, some_one}
use Rattle.dd_values.specs.lemmas.Booleans.{and_true}
use Rattle.dd_expansion.specs.declared.formulas.Formula.TheVariants as v

-- the truth of a formula from the truth of its parts

truth_and : (es : List Edge) (fs : List Formula) (env : List Cell) (look : Look) → truth es (v.And fs) env look ≡ list_all (λ f. truth es f env look) fs
truth_and es fs env look =
    ap (λ f. truth es f env look) (sym (v.rolls-And fs))
    ∙ (ap (λ h. h env look) (fold-roll-Formula Truth (truth_step es) (Formula-F.And fs)) ∙ list_all-map (λ h. h env look) (truth es) fs)

truth_or : (es : List Edge) (fs : List Formula) (env : List Cell) (look : Look) → truth es (v.Or fs) env look ≡ list_any (λ f. truth es f env look) fs
truth_or es fs env look =
    ap (λ f. truth es f env look) (sym (v.rolls-Or fs))
    ∙ (ap (λ h. h env look) (fold-roll-Formula Truth (truth_step es) (Formula-F.Or fs)) ∙ list_any-map (λ h. h env look) (truth es) fs)

truth_not : (es : List Edge) (f : Formula) (env : List Cell) (look : Look) → truth es (v.Not f) env look ≡ not (truth es f env look)
truth_not es f env look =
    ap (λ f. truth es f env look) (sym (v.rolls-Not f)) ∙ ap (λ h. h env look) (fold-roll-Formula Truth (truth_step es) (Formula-F.Not f))

truth_node : (es : List Edge) (a : ℕ) (c : Cell) (look : Look) → truth es (v.Node here a) (c ∷ []) look ≡ (c.node == a)
truth_node es a c look =
    ap (λ f. truth es f (c ∷ []) look) (sym (v.rolls-Node here a)) ∙ ap (λ h. h (c ∷ []) look) (fold-roll-Formula Truth (truth_step es) (Formula-F.Node here a))

pub truth_symbol : (es : List Edge) (t : ℕ) (c : Cell) (look : Look) → truth es (symbol_is t) (c ∷ []) look ≡ is_symbol t (look c)
truth_symbol es t c look =
    ap (λ f. truth es f (c ∷ []) look) (sym (v.rolls-Symbol here t)) ∙ ap (λ h. h (c ∷ []) look) (fold-roll-Formula Truth (truth_step es) (Formula-F.Symbol here t))

-- Let a cell have the symbol t. There, the guards of other nodes are true. The guard of the cell's own node is true exactly when the node allows t,
-- since the guard lists the symbols that the node allows. A node without a guard allows all symbols.
module _ (es : List Edge) (s : SymbolSets) (c : Cell) (t : ℕ) (look : Look) (gives : look c ≡ Some t) (below : t < s.symbols) where
  symbols_say : (a : ℕ) → list_any (λ f. truth es f (c ∷ []) look) (map symbol_is (allowed_symbols s a)) ≡ allows s a t
  symbols_say a =
      list_any-map (λ f. truth es f (c ∷ []) look) symbol_is (allowed_symbols s a)
      ∙ (list_any-alike (λ u. truth es (symbol_is u) (c ∷ []) look) (λ u. t == u) (λ u. truth_symbol es u c look ∙ ap (is_symbol u) gives) (allowed_symbols s a)
      ∙ (any_kept (λ u. t == u) (allows s a) (range_with_len 0 s.symbols)
      ∙ some_one (allows s a) t s.symbols below))

  pub guard_says : (a : ℕ) → truth es (guard s a) (c ∷ []) look ≡ (not (c.node == a) || allows s a t)
  guard_says a =
      truth_or es (v.Not (v.Node here a) ∷ map symbol_is (allowed_symbols s a)) (c ∷ []) look
      ∙ rw (truth_not es (v.Node here a) (c ∷ []) look, truth_node es a c look) (ap (λ b. not (c.node == a) || b) (symbols_say a))

  -- a node that allows all symbols allows this one
  all_allowed : (a : ℕ) → allows_all s a ≡ true → allows s a t ≡ true
  all_allowed a h = range_at (allows s a) 0 s.symbols t h (omega arith) (omega arith)

  skip_full : (a : ℕ) → (not (not (allows_all s a)) || (not (c.node == a) || allows s a t)) ≡ (not (c.node == a) || allows s a t)
  skip_full a = by (allows_all s a) refl
    where
      or_true : (b : Bool) → (b || true) ≡ true
      or_true true = refl
      or_true false = refl

      by : (x : Bool) → allows_all s a ≡ x → (not (not (allows_all s a)) || (not (c.node == a) || allows s a t)) ≡ (not (c.node == a) || allows s a t)
      by true h = rw (h, all_allowed a h, or_true (not (c.node == a))) refl
      by false h = rw h refl

  guards_say : (n : ℕ) → c.node < n → list_all (λ f. truth es f (c ∷ []) look) (map (guard s) (guarded_nodes s n)) ≡ allows s c.node t
  guards_say n within =
      list_all-map (λ f. truth es f (c ∷ []) look) (guard s) (guarded_nodes s n)
      ∙ (list_all-alike (λ a. truth es (guard s a) (c ∷ []) look) (λ a. not (c.node == a) || allows s a t) guard_says (guarded_nodes s n)
      ∙ (all_kept (λ a. not (c.node == a) || allows s a t) (λ a. not (allows_all s a)) (range_with_len 0 n)
      ∙ (list_all-alike (λ a. not (not (allows_all s a)) || (not (c.node == a) || allows s a t)) (λ a. not (c.node == a) || allows s a t) skip_full (range_with_len 0 n)
      ∙ all_but_one (λ a. allows s a t) c.node n within)))

  with_says : (f : Formula) (gs : List Formula) → truth es (with_guards f gs) (c ∷ []) look ≡ (truth es f (c ∷ []) look && list_all (λ h. truth es h (c ∷ []) look) gs)
  with_says f [] = sym (and_true (truth es f (c ∷ []) look))
  with_says f (g ∷ gs) = truth_and es (f ∷ g ∷ gs) (c ∷ []) look

  -- the guarded formula says that the formula is true and the symbol is allowed
  pub guarded_says : (n : ℕ) → c.node < n → (f : Formula) → truth es (guarded s n f) (c ∷ []) look ≡ (truth es f (c ∷ []) look && allows s c.node t)
  guarded_says n within f = with_says f (map (guard s) (guarded_nodes s n)) ∙ ap (λ b. truth es f (c ∷ []) look && b) (guards_say n within)
