-- The cases of the identity are well formed. Facts about two automata carry over to automata that are equal to them.
use Rattle.std.proofs.Common.{◌≡◌, ◌<◌, ℕ, zero, suc, ◌+◌, ◌-◌, [], ◌∷◌, map, refl, sym, ◌∙◌, subst, arith}
use Rattle.std.proofs.lemmas.{Bool.lt-ltb, List.FromFn.length-map-range_with_len, List.FromFn.get_or-map-range_with_len}
use Rattle.std.specs.{Prelude.slice_index_or, List.range_with_len, List.All}
use Rattle.dd_topology.specs.{Grid.Grid, Sets.SymbolSets}
use Rattle.dd_formula.specs.{ByCases.IsCaseOver, declared.automaton.Automaton.Automaton}
use Rattle.dd_maps.specs.Pairs.{own_symbol}
use Rattle.dd_maps.proofs.Formed.{fits_symbol, depth_symbol}

-- what holds of an item holds of each item of the list that consists of it alone
pub single : {X : Type 0} (P : X → Type 0) (x : X) → P x → (k : ℕ) (d : X) → k < 1 → P (slice_index_or (x ∷ []) k d)
single P x h zero d below = h
single P x h (suc k) d below = absurd (omega arith)

-- each case of the identity is a formula over the topology and the alphabet, with a symbol of the alphabet
own_case : (g : Grid) (s : SymbolSets) (t : ℕ) → t < s.symbols → IsCaseOver g s (own_symbol t)
own_case g s t below = record {
  formula = record { numbers = fits_symbol g s t ∙ lt-ltb t s.symbols below; depth = omega (arith, depth_symbol t) };
  symbol = below;
}

pub own_cases : (g : Grid) (s : SymbolSets) → All (IsCaseOver g s) (map own_symbol (range_with_len 1 (s.symbols - 1)))
own_cases g s k d below =
    let short : k < s.symbols - 1 = omega (arith, below, length-map-range_with_len own_symbol 1 (s.symbols - 1)) in
    subst (IsCaseOver g s) (sym (get_or-map-range_with_len own_symbol 1 (s.symbols - 1) k (1 + k) d short refl)) (own_case g s (1 + k) (omega arith))

-- what holds of two automata holds of two that are equal to them
pub of_pair : (P : Automaton → Automaton → Type 0) (f h f' h' : Automaton) → f ≡ f' → h ≡ h' → P f' h' → P f h
of_pair P f h f' h' one other all = subst (λ k. P k h) (sym one) (subst (P f') (sym other) all)
