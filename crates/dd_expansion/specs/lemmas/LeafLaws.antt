-- What follows if each leaf of an expansion passes a test.
use Rattle.std.proofs.Common.{◌≡◌, ℕ, Bool, true, List, [], ◌∷◌, map, refl}
use Rattle.std.proofs.lemmas.{Bool.and_parts, List.Folds.list_all-append}
use Rattle.std.specs.{Prelude.◌&&◌, Prelude.is_some, List.list_all, List.flat_map}
use Rattle.dd_lattice.specs.declared.position.Cell.{Cell}
use Rattle.dd_expansion.specs.declared.expanded.Expanded.{Expanded}
use Rattle.dd_expansion.specs.declared.expanded.Expanded.TheFolds.{fold-roll-Expanded, ind-Expanded, map-Expanded}
use Rattle.dd_expansion.specs.declared.expanded.Expanded.TheOpen.{Expanded-F}
use Rattle.dd_expansion.specs.Leaves.{LeafTest, leaves_pass, leaves_pass_step, leaf_cells, leaf_cells_step}
use Rattle.dd_values.specs.lemmas.Booleans.{and_true, and_four}

-- each leaf that passes the first test passes the second
abbrev pub IsStronger : LeafTest → LeafTest → Type 0
IsStronger p q = (c : Cell) (s : ℕ) → p c s ≡ true → q c s ≡ true

-- if all leaves pass a test, they pass each weaker test
abbrev Weakens : Expanded → Type 0
Weakens e = (p q : LeafTest) → IsStronger p q → leaves_pass p e ≡ true → leaves_pass q e ≡ true

abbrev Weak : Type 0
Weak = (e : Expanded) × Weakens e

abbrev weak_layer : Expanded-F Weak → Expanded-F Expanded
weak_layer y = map-Expanded Weak Expanded (λ e. e.0) y

all_weaken : (es : List Weak) (p q : LeafTest) → IsStronger p q → list_all (λ b. b) (map (leaves_pass p) (map (λ e. e.0) es)) ≡ true →
    list_all (λ b. b) (map (leaves_pass q) (map (λ e. e.0) es)) ≡ true
all_weaken [] p q w h = refl
all_weaken (e ∷ es) p q w h =
    let both = and_parts (leaves_pass p e.0) (list_all (λ b. b) (map (leaves_pass p) (map (λ e. e.0) es))) h in
    rw (e.1 p q w both.0) (all_weaken es p q w both.1)

step_weakens : (y : Expanded-F Weak) (p q : LeafTest) → IsStronger p q → leaves_pass_step p (map-Expanded Expanded Bool (leaves_pass p) (weak_layer y)) ≡ true →
    leaves_pass_step q (map-Expanded Expanded Bool (leaves_pass q) (weak_layer y)) ≡ true
step_weakens (Expanded-F.Constant b) p q w h = refl
step_weakens (Expanded-F.Leaf c s) p q w h = w c s h
step_weakens (Expanded-F.Not e) p q w h = e.1 p q w h
step_weakens (Expanded-F.And es) p q w h = all_weaken es p q w h
step_weakens (Expanded-F.Or es) p q w h = all_weaken es p q w h
step_weakens (Expanded-F.Iff e f) p q w h =
    let both = and_parts (leaves_pass p e.0) (leaves_pass p f.0) h in
    rw (e.1 p q w both.0) (f.1 p q w both.1)

pub leaves_weaken : (e : Expanded) → Weakens e
leaves_weaken = ind-Expanded Weakens (λ x y is p q w.
    rw (fold-roll-Expanded Bool (leaves_pass_step p) x, fold-roll-Expanded Bool (leaves_pass_step q) x, ← is) (step_weakens y p q w))

abbrev both_tests : LeafTest → LeafTest → LeafTest
both_tests p q c s = p c s && q c s

-- the leaves pass two tests at once exactly when they pass each of the two
abbrev Joins : Expanded → Type 0
Joins e = (p q : LeafTest) → leaves_pass (λ c s. p c s && q c s) e ≡ (leaves_pass p e && leaves_pass q e)

abbrev Joined : Type 0
Joined = (e : Expanded) × Joins e

abbrev joined_layer : Expanded-F Joined → Expanded-F Expanded
joined_layer y = map-Expanded Joined Expanded (λ e. e.0) y

all_join : (es : List Joined) (p q : LeafTest) →
    list_all (λ b. b) (map (leaves_pass (both_tests p q)) (map (λ e. e.0) es))
    ≡ (list_all (λ b. b) (map (leaves_pass p) (map (λ e. e.0) es)) && list_all (λ b. b) (map (leaves_pass q) (map (λ e. e.0) es)))
all_join [] p q = refl
all_join (e ∷ es) p q =
    rw (e.1 p q, all_join es p q)
    (and_four (leaves_pass p e.0) (leaves_pass q e.0) (list_all (λ b. b) (map (leaves_pass p) (map (λ e. e.0) es))) (list_all (λ b. b) (map (leaves_pass q) (map (λ e. e.0) es))))

step_joins : (y : Expanded-F Joined) (p q : LeafTest) →
    leaves_pass_step (both_tests p q) (map-Expanded Expanded Bool (leaves_pass (both_tests p q)) (joined_layer y))
    ≡ (leaves_pass_step p (map-Expanded Expanded Bool (leaves_pass p) (joined_layer y)) && leaves_pass_step q (map-Expanded Expanded Bool (leaves_pass q) (joined_layer y)))
step_joins (Expanded-F.Constant b) p q = refl
step_joins (Expanded-F.Leaf c s) p q = refl
step_joins (Expanded-F.Not e) p q = e.1 p q
step_joins (Expanded-F.And es) p q = all_join es p q
step_joins (Expanded-F.Or es) p q = all_join es p q
step_joins (Expanded-F.Iff e f) p q = rw (e.1 p q, f.1 p q) (and_four (leaves_pass p e.0) (leaves_pass q e.0) (leaves_pass p f.0) (leaves_pass q f.0))

pub leaves_both : (e : Expanded) → Joins e
leaves_both = ind-Expanded Joins (λ x y is p q.
    rw (
      fold-roll-Expanded Bool (leaves_pass_step p) x,
      fold-roll-Expanded Bool (leaves_pass_step q) x,
      fold-roll-Expanded Bool (leaves_pass_step (both_tests p q)) x,
      ← is,
    ) (step_joins y p q))

-- for a test that looks only at a leaf's cell: the leaves pass the test exactly when each cell of the list `leaf_cells` passes it
abbrev TestsCells : Expanded → Type 0
TestsCells e = (test : Cell → Bool) → leaves_pass (λ c s. test c) e ≡ list_all test (leaf_cells e)

abbrev Tested : Type 0
Tested = (e : Expanded) × TestsCells e

abbrev tested_layer : Expanded-F Tested → Expanded-F Expanded
tested_layer y = map-Expanded Tested Expanded (λ e. e.0) y

all_test : (es : List Tested) (test : Cell → Bool) →
    list_all (λ b. b) (map (leaves_pass (λ c s. test c)) (map (λ e. e.0) es)) ≡ list_all test (flat_map (λ cs. cs) (map leaf_cells (map (λ e. e.0) es)))
all_test [] test = refl
all_test (e ∷ es) test =
    rw (e.1 test, all_test es test, list_all-append test (leaf_cells e.0) (flat_map (λ cs. cs) (map leaf_cells (map (λ e. e.0) es))))

step_tests : (y : Expanded-F Tested) (test : Cell → Bool) →
    leaves_pass_step (λ c s. test c) (map-Expanded Expanded Bool (leaves_pass (λ c s. test c)) (tested_layer y))
    ≡ list_all test (leaf_cells_step (map-Expanded Expanded (List Cell) leaf_cells (tested_layer y)))
step_tests (Expanded-F.Constant b) test = refl
step_tests (Expanded-F.Leaf c s) test = rw (and_true (test c))
step_tests (Expanded-F.Not e) test = e.1 test
step_tests (Expanded-F.And es) test = all_test es test
step_tests (Expanded-F.Or es) test = all_test es test
step_tests (Expanded-F.Iff e f) test = rw (e.1 test, f.1 test, list_all-append test (leaf_cells e.0) (leaf_cells f.0))

pub leaves_are_cells : (e : Expanded) → TestsCells e
leaves_are_cells = ind-Expanded TestsCells (λ x y is test.
    rw (fold-roll-Expanded Bool (leaves_pass_step (λ c s. test c)) x, fold-roll-Expanded (List Cell) leaf_cells_step x, ← is) (step_tests y test))
