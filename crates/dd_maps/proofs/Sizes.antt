-- How many instances the automata have. The instances are few if their number is within the limit at each node.
use Rattle.std.proofs.Common.{◌≡◌, ◌≤◌, ℕ, ◌+◌, ◌-◌, Bool, true, false, List, [], ◌∷◌, map, length, refl, ap, sym, ◌∙◌, arith}
use Rattle.std.proofs.lemmas.{Bool.le-leb, Bool.leb-true, List.FromFn.length-range_with_len}
use Rattle.std.specs.{Prelude.nat_le, List.range_with_len}
use Rattle.dd_topology.specs.{Grid.Grid, Sets.SymbolSets}
use Rattle.dd_expansion.specs.declared.formulas.Formula.{TheFolds.fold-roll-Formula, TheOpen.Formula-F}
use Rattle.dd_expansion.specs.declared.expanded.Expanded.{TheFolds.fold-roll-Expanded, TheOpen.Expanded-F}
use Rattle.dd_expansion.specs.{Terms.origin_at, Expansion.Expansion, Expansion.expansion, Expansion.expansion_step, Expansion.leaf}
use Rattle.dd_expansion.specs.{Leaves.instances, Leaves.instances_step, lemmas.ListTests.list_all-weaker, lemmas.ListTests.all_pass}
use Rattle.dd_formula.specs.LocalRule.{local_rule, expansion_at, most_instances}
use Rattle.dd_formula.specs.{Automata.counted, Automata.is_few, Automata.case_instances, ByCases.case_over, Compositions.composition}
use Rattle.dd_formula.specs.declared.automaton.Automaton.{Automaton}
use Rattle.dd_formula.specs.lemmas.AutomatonLaws.{counted_given, instances_composed}
use Rattle.dd_maps.specs.{Guarded.here, Guarded.symbol_is, Pairs.own_symbol, Pairs.identity, Pairs.always_zero}
use Rattle.dd_expansion.specs.declared.formulas.Formula.TheVariants as v

-- a composition has at least as many instances as its outer automaton; so if the composition has few, the outer automaton has few too
pub few_outer : (n : ℕ) (f h : Automaton) → is_few n (composition f h) ≡ true → is_few n (counted f) ≡ true
few_outer n f h few =
    list_all-weaker (λ a. nat_le ((composition f h).instances a) most_instances) (λ a. nat_le ((counted f).instances a) most_instances)
    (λ a one. le-leb _ _ (omega (arith, leb-true _ _ one, instances_composed f h a))) (range_with_len 0 n) few

pub many_outer : (n : ℕ) (f h : Automaton) → is_few n (counted f) ≡ false → is_few n (composition f h) ≡ false
many_outer n f h many = by (is_few n (composition f h)) refl
  where
    by : (b : Bool) → is_few n (composition f h) ≡ b → is_few n (composition f h) ≡ false
    by true few = absurd (let both : true ≡ false = sym (few_outer n f h few) ∙ many in cc)
    by false few = few

module _ (g : Grid) (s : SymbolSets) where
  pub zero_few : (n : ℕ) → is_few n (counted (always_zero g s)) ≡ true
  zero_few n = ap (is_few n) (counted_given _) ∙ all_pass _ (λ a. refl) (range_with_len 0 n)

  -- An expansion is a formula written without variables. The expansion of each case of the identity is a single leaf.
  symbol_expansion : (t a : ℕ) → expansion_at (local_rule g s (symbol_is t)) a ≡ leaf t (origin_at a)
  symbol_expansion t a =
      ap (λ f. expansion g.edges s.symbols f (origin_at a ∷ [])) (sym (v.rolls-Symbol here t))
      ∙ ap (λ (h : Expansion). h (origin_at a ∷ [])) (fold-roll-Formula Expansion (expansion_step g.edges s.symbols) (Formula-F.Symbol here t))

  symbol_size : (t a : ℕ) → instances (expansion_at (local_rule g s (symbol_is t)) a) ≡ 1
  symbol_size t a = ap instances (symbol_expansion t a) ∙ fold-roll-Expanded ℕ instances_step (Expanded-F.Leaf (origin_at a) t)

  own_sizes : (ts : List ℕ) (a : ℕ) → case_instances a (map (case_over g s) (map own_symbol ts)) ≡ length ts + length ts
  own_sizes [] a = refl
  own_sizes (t ∷ ts) a = omega (arith, symbol_size t a, own_sizes ts a)

  pub identity_few : (n : ℕ) → s.symbols ≤ 16 → is_few n (counted (identity g s)) ≡ true
  identity_few n few =
      ap (is_few n) (counted_given _)
      ∙ all_pass _ (λ a. le-leb _ _ (omega (arith, own_sizes (range_with_len 1 (s.symbols - 1)) a, length-range_with_len 1 (s.symbols - 1), few))) (range_with_len 0 n)
