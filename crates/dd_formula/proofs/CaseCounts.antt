-- The counts of an automaton by cases, from the formulas of the cases. If one of these formulas is refused as a rule, the automaton is refused.
use Rattle.std.proofs.Common.{◌≡◌, ◌<◌, ◌≤◌, ◌+◌, ℕ, Bool, true, false, List, length, map, take, get_or, ap, sym, ◌∙◌, arith}
use Rattle.std.proofs.lemmas.{Bool.and_from, Bool.lt-ltb, List.Elements.All-weaker}
use Rattle.std.proofs.lemmas.List.Folds.{list_all-map, list_all_at}
use Rattle.std.proofs.lemmas.List.Sums.{get_or-le-sum_by, sum_by_more, list_all-from_AllPass}
use Rattle.std.proofs.lemmas.Simd.{map-map}
use Rattle.std.specs.{Prelude.◌&&◌, Prelude.nat_lt, List.All, List.list_all, List.sum_by}
use Rattle.dd_topology.specs.{Grid.Grid, Sets.SymbolSets}
use Rattle.dd_expansion.specs.{declared.formulas.Formula.Formula, Leaves.instances, Leaves.total, lemmas.Layers.total-map}
use Rattle.dd_expansion.specs.lemmas.ListTests.{list_all-flat_map}
use Rattle.dd_formula.specs.LocalRule.{LocalRule, local_rule, expansion_at, reads_at, is_near}
use Rattle.dd_formula.specs.{Automata.cases_fit, Automata.is_few, Automata.rule_has, Refusals.IsRuleRefusal}
use Rattle.dd_formula.specs.ByCases.{numbers_over, case_over, counts_over, IsCaseOver, IsCasesRefusal}
use Rattle.dd_formula.specs.{declared.fault.RuleFault.RuleFault, lemmas.CasesLaws.refused, lemmas.CasesLaws.has_numbers}

module _ (g : Grid) (s : SymbolSets) where
  abbrev pub size : ℕ → Formula × ℕ → ℕ
  size a case = instances (expansion_at (local_rule g s case.0) a) + 1

  pub by_size : (cases : List (Formula × ℕ)) (a : ℕ) → (counts_over g s cases).instances a ≡ sum_by (size a) cases + 1
  by_size cases a = ap (λ n. n + 1) (ap total (map-map (λ (case : LocalRule × ℕ). instances (expansion_at case.0 a) + 1) (case_over g s) cases) ∙ total-map (size a) cases)

  abbrev near : ℕ → Formula × ℕ → Bool
  near a case = list_all is_near (reads_at (local_rule g s case.0) a)

  pub all_fit : (cases : List (Formula × ℕ)) (otherwise : ℕ) → All (IsCaseOver g s) cases → otherwise < s.symbols → cases_fit (numbers_over g s) (map (case_over g s) cases) otherwise ≡ true
  all_fit cases otherwise h below =
      let test = λ (case : LocalRule × ℕ). rule_has (numbers_over g s) case.0 && nat_lt case.1 s.symbols in
      and_from _ _ (
      list_all-map test (case_over g s) cases
      ∙ list_all-from_AllPass (λ case. test (case_over g s case)) cases
      (All-weaker (IsCaseOver g s) (λ case. test (case_over g s case) ≡ true) (λ case is. and_from _ _ (has_numbers g s case.0) (lt-ltb _ _ is.symbol)) cases h)
      ) (lt-ltb _ _ below)

  -- one of the cases
  module _ (cases : List (Formula × ℕ)) (i : ℕ) (case : Formula × ℕ) (below : i < length cases) (is : case ≡ get_or cases i case) where
    pub size_more : (a : ℕ) → sum_by (size a) (take (i + 1) cases) ≡ sum_by (size a) (take i cases) + size a case
    size_more a = sum_by_more (size a) cases i case below ∙ ap (λ c. sum_by (size a) (take i cases) + size a c) (sym is)

    large : (a : ℕ) → instances (expansion_at (local_rule g s case.0) a) ≤ (counts_over g s cases).instances a
    large a = omega (arith, by_size cases a, get_or-le-sum_by (size a) cases i case below, ap (size a) is)

    far : (a : ℕ) → near a case ≡ false → list_all is_near ((counts_over g s cases).reads a) ≡ false
    far a h =
        list_all-flat_map is_near (λ (c : LocalRule × ℕ). reads_at c.0 a) (map (case_over g s) cases)
        ∙ (list_all-map (λ (c : LocalRule × ℕ). list_all is_near (reads_at c.0 a)) (case_over g s) cases
        ∙ list_all_at (near a) cases i case below (ap (near a) (sym is) ∙ h))

    -- if the automaton is within the limit on instances, and the case's formula is refused as a rule for a fault, then the automaton is refused for
    -- this fault too
    pub case_refused : (e : RuleFault) → is_few g.nodes (counts_over g s cases) ≡ true → IsRuleRefusal (local_rule g s case.0) e → IsCasesRefusal g.nodes (counts_over g s cases) e
    case_refused e few h = refused (local_rule g s case.0) (counts_over g s cases) large far e (λ _. few) h
