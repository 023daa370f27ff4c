-- Conditions under which a layout has inputs for all that is read. A goal holds at the origin exactly when its test passes.
use Rattle.std.proofs.Common.{◌≡◌, ℕ, zero, suc, ◌+◌, ◌<◌, ◌≤◌, Bool, true, false, List, [], ◌∷◌, map, refl, ap, sym, subst, ◌∙◌, arith, Some, None, inl, inr, eq-eqb}
use Rattle.std.proofs.Math.Nat.{eq-or-lt_of_le}
use Rattle.std.proofs.lemmas.Bool.{and_parts, and_from, or_cases, both_ways, eqb-true}
use Rattle.std.proofs.lemmas.List.Folds.{list_all-append}
use Rattle.std.specs.Prelude.{not, ◌&&◌, ◌||◌, ◌==◌, ◌⊎◌, Option, nat_lt, slice_get}
use Rattle.std.specs.List.{list_all, list_any, filter, range_with_len}
use Rattle.dd_lattice.specs.{Cells.cell, Cells.shifted, declared.position.Cell.Cell}
use Rattle.dd_pattern.specs.Reading.{Look, HasSymbolsBelow}
use Rattle.dd_expansion.specs.{Terms.origin_at, Leaves.leaves_pass, lemmas.LeafLaws.leaves_both, lemmas.LeavesAreReads.leaves_are_reads}
use Rattle.dd_formula.specs.LocalRule.{LocalRule, IsRule, is_true, reads_at, expansion_at}
use Rattle.dd_formula.specs.{Automata.value, lemmas.ReachLaws.all_numbers}
use Rattle.dd_boxes.specs.{Goals.GoalOf, Goals.breaks, Goals.differ, Goals.always, Goals.HasGoal, Boxes.origin}
use Rattle.dd_problem.specs.{pushing.GoalFacts.HasGoalFacts, Layouts.Layout, Layouts.fits_in, lemmas.Filtered.filter_all}
use Rattle.dd_problem.specs.lemmas.ValueWires.{GoalWired}
use Rattle.dd_problem.specs.lemmas.Parted.{reads_inputs, goal_holds, goal_reads, HasItsSymbols, job_reads}
use Rattle.dd_problem.specs.lemmas.Reading.{IsLayout, IsWired}
use Rattle.dd_values.specs.lemmas.Booleans.{not_true}

-- If `list_all` is true of a range, each number in the range passes the test. If `list_any` is true of a range, some number below the range's end
-- passes; and `list_any` is true if some number in the range passes.
pub range_at : (p : ℕ → Bool) (n a k : ℕ) → list_all p (range_with_len a n) ≡ true → a ≤ k → k < a + n → p k ≡ true
range_at p zero a k h low high = absurd (omega arith)
range_at p (suc n) a k h low high =
    let both = and_parts (p a) (list_all p (range_with_len (a + 1) n)) h in
    elim (eq-or-lt_of_le low) [ inl same ↦ ap p (sym same) ∙ both.0 | inr later ↦ range_at p n (a + 1) k both.1 (omega arith) (omega arith) ]

any_range : (p : ℕ → Bool) (n a : ℕ) → list_any p (range_with_len a n) ≡ true → (k : ℕ) × (k < a + n) × (p k ≡ true)
any_range p zero a h = absurd (cc)
any_range p (suc n) a h = elim (or_cases (p a) (list_any p (range_with_len (a + 1) n)) h) [
  | inl here ↦ (a, omega arith, here)
  | inr later ↦ (let r = any_range p n (a + 1) later in let low = r.1 in (r.0, omega arith, r.2))
]

any_of_range : (p : ℕ → Bool) (n a k : ℕ) → a ≤ k → k < a + n → p k ≡ true → list_any p (range_with_len a n) ≡ true
any_of_range p zero a k low high h = absurd (omega arith)
any_of_range p (suc n) a k low high h = elim (cases_first a k low) [
  | inl same ↦ or_first (p a) (list_any p (range_with_len (a + 1) n)) (ap p same ∙ h)
  | inr later ↦ or_later (p a) (list_any p (range_with_len (a + 1) n)) (any_of_range p n (a + 1) k (omega arith) (omega arith) h)
]
  where
    cases_first : (a k : ℕ) → a ≤ k → (a ≡ k) ⊎ (a < k)
    cases_first a k low = eq-or-lt_of_le low

    or_first : (x y : Bool) → x ≡ true → (x || y) ≡ true
    or_first x y h = rw h refl

    or_later : (x y : Bool) → y ≡ true → (x || y) ≡ true
    or_later true y h = refl
    or_later false y h = h

-- the goal holds at the origin exactly when its test passes
pub goal_from_test : (g : GoalOf) (look : Look) → goal_holds g look ≡ true → HasGoal g look origin
goal_from_test (breaks y) look h =
    let r = any_range (λ a. not (is_true y (cell origin a) look)) y.nodes 0 h in
    let below = r.1 in
    (r.0, omega arith, not_true (is_true y (cell origin r.0) look) r.2)
goal_from_test (differ s f g) look h =
    let r = any_range (λ a. not (value f look (cell origin a) == value g look (cell origin a))) s.nodes 0 h in
    let below = r.1 in
    let other = not_true (value f look (cell origin r.0) == value g look (cell origin r.0)) r.2 in
    (r.0, omega arith, λ same. both_ways (value f look (cell origin r.0) == value g look (cell origin r.0)) other (eq-eqb (value f look (cell origin r.0)) (value g look (cell origin r.0)) same))
goal_from_test always look h = tt

pub test_from_goal : (g : GoalOf) (look : Look) → HasGoal g look origin → goal_holds g look ≡ true
test_from_goal (breaks y) look h =
    let below = h.1 in
    any_of_range (λ a. not (is_true y (cell origin a) look)) y.nodes 0 h.0 (omega arith) (omega arith) (ap not h.2)
test_from_goal (differ s f g) look h =
    let below = h.1 in
    any_of_range (λ a. not (value f look (cell origin a) == value g look (cell origin a))) s.nodes 0 h.0 (omega arith) (omega arith)
    (not_same (value f look (cell origin h.0)) (value g look (cell origin h.0)) h.2 (value f look (cell origin h.0) == value g look (cell origin h.0)) refl)
  where
    not_same : (u v : ℕ) → (u ≡ v → ⊥) → (b : Bool) → (u == v) ≡ b → not (u == v) ≡ true
    not_same u v apart true is = absurd (apart (eqb-true u v is))
    not_same u v apart false is = ap not is
test_from_goal always look h = refl

-- if each cell that a rule reads at d has inputs, each leaf of the rule there has its input
place_reads : (l : Layout) (m : ℕ) (r : LocalRule) (d : Cell) → IsRule r → m ≡ r.symbols → d.node < r.nodes → list_all (λ c. l.has (shifted d.position c)) (reads_at r d.node) ≡ true →
    reads_inputs l m r d ≡ true
place_reads l m r d ok same node there =
    leaves_both (expansion_at r d.node) (λ c s. l.has (shifted d.position c)) (λ c s. nat_lt s m)
    ∙ and_from _ _ (leaves_are_reads r.edges r.symbols ok.symbols.0 r.formula (origin_at d.node ∷ []) (λ c. l.has (shifted d.position c)) ∙ there)
    (ap (λ n. leaves_pass (λ c s. nat_lt s n) (expansion_at r d.node)) same ∙ ok.known d.node node)

some_all : (p : Option Cell → Bool) (ds : List Cell) → list_all p (map (λ d. Some d) ds) ≡ list_all (λ d. p (Some d)) ds
some_all p [] = refl
some_all p (d ∷ ds) = ap (λ b. p (Some d) && b) (some_all p ds)

-- if the goal is that a rule is broken, the layout has each cell that this rule reads at the origin
abbrev pub HasReads : Layout → GoalOf → Type 0
HasReads l (breaks y) = (a : ℕ) → a < y.nodes → list_all (λ c. l.has (shifted origin c)) (reads_at y a) ≡ true
HasReads l (differ s f g) = Unit {0}
HasReads l always = Unit {0}

goal_is_read : (l : Layout) (x : LocalRule) (g : GoalOf) → HasGoalFacts x g → HasReads l g → goal_reads l x.symbols g ≡ true
goal_is_read l x (breaks y) ok there =
    all_numbers (λ a. reads_inputs l x.symbols y (cell origin a)) 0 y.nodes
    (λ a below. (let node : a < y.nodes = omega arith in place_reads l x.symbols y (cell origin a) ok.0 (sym ok.1.symbols) node (there a node)))
goal_is_read l x (differ s f g) ok there = refl
goal_is_read l x always ok there = refl

goal_alphabet : (x : LocalRule) (g : GoalOf) (look : Look) → HasGoalFacts x g → HasSymbolsBelow x.symbols look → HasItsSymbols g look
goal_alphabet x (breaks y) look ok below = subst (λ m. HasSymbolsBelow m look) (sym ok.1.symbols) below
goal_alphabet x (differ s f g) look ok below = subst (λ m. HasSymbolsBelow m look) (sym ok.over.symbols) below
goal_alphabet x always look ok below = tt

pub wired_layout : (l : Layout) (x : LocalRule) (g : GoalOf) → IsRule x → HasGoalFacts x g → IsLayout l → ((k : ℕ) (d : Cell) → slice_get l.places k ≡ Some d → d.node < x.nodes) →
    HasReads l g → GoalWired l x.symbols g → IsWired l x g
wired_layout l x g rule ok layout nodes there values = record {
  layout = layout;
  values = values;
  reads =
      list_all-append (job_reads l x g) (map (λ d. Some d) (filter (fits_in l x) l.places)) (None ∷ [])
      ∙ and_from _ _
      (some_all (job_reads l x g) (filter (fits_in l x) l.places)
      ∙ filter_all (reads_inputs l x.symbols x) (fits_in l x) l.places (λ k d is fit. place_reads l x.symbols x d rule refl (nodes k d is) fit))
      (and_from _ _ (goal_is_read l x g ok there) refl);
  alphabet = λ look. goal_alphabet x g look ok;
}
