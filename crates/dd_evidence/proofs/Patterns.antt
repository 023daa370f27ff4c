-- The patterns of a node, as the code makes and appends them. The fault `Size` doesn't occur.
use Rattle.std.proofs.Common.{◌≡◌, ℕ, ◌^◌, ◌≤◌, ◌<◌, true, List, ◌++◌, map, length, refl, ap, ◌∙◌, arith}
use Rattle.std.proofs.lemmas.{Bool.ltb-true, Simd.map-map}
use Rattle.dd_pattern.specs.Filling.{Filled, filled}
use Rattle.dd_formula.specs.LocalRule.{LocalRule, cells_at}
use Rattle.dd_forbidden.specs.Breaking.{BreakingFillings, AreBreakingFillings, is_large}
use Rattle.dd_certificate.specs.declared.answer.Listed.{Listed}
use Rattle.dd_question.specs.Lists.{HasFewPatterns}
use Rattle.dd_evidence.specs.{NodeLists.IsListedAfter, Lists.listed}

-- if the cells that the rule reads have few enough fillings, the fault `Size` doesn't occur
pub never_large : (r : LocalRule) (a : ℕ) → HasFewPatterns r → a < r.nodes → is_large r a ≡ true → ⊥
never_large r a few below large =
    let many : 65536 < r.symbols ^ length (cells_at r a) = ltb-true 65536 (r.symbols ^ length (cells_at r a)) large in
    let most : r.symbols ^ length (cells_at r a) ≤ 65536 = few a below in
    omega (arith, many, most)

-- the pattern of a filling
abbrev pub pattern_of : ℕ → Filled → Listed
pattern_of a f = listed a f.symbols

-- once all breaking fillings at the node are appended, the list ends with the node's entries
pub node_done : (x : LocalRule) (a : ℕ) (found all : List Filled) (start new : List Listed) → AreBreakingFillings x a found → all ≡ found →
    new ≡ start ++ map (pattern_of a) all → IsListedAfter (BreakingFillings x) listed a (λ before. before ≡ start) new
node_done x a found all start new are same is = record {
  before = start;
  is_before = refl;
  here = are.symbols;
  is_here = are.breaking;
  whole =
      is ∙ ap (λ (ps : List Listed). start ++ ps)
      (ap (map (pattern_of a)) (same ∙ are.fillings) ∙ map-map (pattern_of a) (filled (cells_at x a)) are.symbols);
}
