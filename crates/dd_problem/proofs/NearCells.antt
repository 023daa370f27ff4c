-- The cells that the premise reads at given cells, and those of the box of the goal's least radius, are among those that `near_cells` lists for the
-- given cells. The listed cells ascend in cell order. If the given cells have nodes of the premise, so have the listed ones.
use Rattle.std.proofs.Common.{◌≡◌, ◌<◌, Bool, true, List, [], ◌∷◌, ◌++◌, ap, sym, subst, ◌∙◌, inl, inr}
use Rattle.std.proofs.lemmas.Bool.{and_parts, and_from, ltb-true, or_left, or_right}
use Rattle.std.proofs.lemmas.List.Elements.{All-contains, Contains-append_left, Contains-append_right}
use Rattle.std.proofs.lemmas.List.Folds.{list_all-append, list_all-map}
use Rattle.std.proofs.lemmas.Option.{slice_get_within, get_or_from_slice_get}
use Rattle.std.specs.{Prelude.nat_lt, Ordering.is_eq, List.All, List.Contains, List.list_all, List.list_any, List.flat_map}
use Rattle.std.specs.{List.Sorted.IsStrictlySortedBy, Cmp.tied_itself}
use Rattle.dd_lattice.specs.{Cells.shifted, Order.cell_cmp, declared.position.Cell.Cell}
use Rattle.dd_lattice.specs.lemmas.InOrderLaws.{cells_equal, in_order_members, list_all-in_order}
use Rattle.dd_values.specs.lemmas.Members.{All-from_contains, Contains-nil, Contains-cons_cases, Contains-first, Contains-later, Contains-map}
use Rattle.dd_values.specs.lemmas.{Booleans.or_cases, Booleans.equal_from, Lists.members_pass}
use Rattle.dd_topology.specs.lemmas.OrderLaws.{cell_total, sorted-in_order}
use Rattle.dd_expansion.specs.lemmas.ListTests.{list_all-flat_map}
use Rattle.dd_formula.specs.LocalRule.{LocalRule, IsRule, reads_at, cells_at}
use Rattle.dd_boxes.specs.{Cells.box_cells, Fillings.in_box, Fillings.is_box_cell, Goals.GoalOf, Boxes.goal_reach}
use Rattle.dd_problem.specs.{Layouts.box_index, pushing.Near.read_cells, pushing.Near.near_cells, lemmas.BoxLayout.box_cell_there}
use Rattle.dd_problem.specs.lemmas.{ValueWires.passes_member, TorusShows.reads_nodes}
use Rattle.dd_problem.proofs.BoxInputs.{member_is_box_cell}

-- whether a cell is one of the cells in a list
abbrev pub is_one_of : List Cell → Cell → Bool
is_one_of cs c = list_any (λ e. is_eq (cell_cmp c e)) cs

one_of_contained : (cs : List Cell) (c : Cell) → Contains cs c → is_one_of cs c ≡ true
one_of_contained [] c there = absurd (Contains-nil c there)
one_of_contained (e ∷ cs) c there = elim (Contains-cons_cases e cs c there) [
  | inl same ↦ or_left (is_eq (cell_cmp c e)) (is_one_of cs c) (ap (λ d. is_eq (cell_cmp c d)) same ∙ ap is_eq (tied_itself cell_total c))
  | inr later ↦ or_right (is_eq (cell_cmp c e)) (is_one_of cs c) (one_of_contained cs c later)
]

pub contained_one_of : (cs : List Cell) (c : Cell) → is_one_of cs c ≡ true → Contains cs c
contained_one_of [] c h = absurd (cc)
contained_one_of (e ∷ cs) c h = elim (or_cases (is_eq (cell_cmp c e)) (is_one_of cs c) h) [
  | inl here ↦ subst (Contains (e ∷ cs)) (sym (cells_equal c e (equal_from (cell_cmp c e) here))) (Contains-first e cs)
  | inr later ↦ Contains-later e cs c (contained_one_of cs c later)
]

pub all_are_some : (cs : List Cell) → list_all (is_one_of cs) cs ≡ true
all_are_some cs = members_pass (is_one_of cs) cs (one_of_contained cs)

flat_map_has : (f : Cell → List Cell) (cs : List Cell) (c d : Cell) → Contains cs c → Contains (f c) d → Contains (flat_map f cs) d
flat_map_has f [] c d h k = absurd (Contains-nil c h)
flat_map_has f (e ∷ cs) c d h k = elim (Contains-cons_cases e cs c h) [
  | inl same ↦ Contains-append_left (f e) (flat_map f cs) d (subst (λ x. Contains (f x) d) (sym same) k)
  | inr later ↦ Contains-append_right (f e) (flat_map f cs) d (flat_map_has f cs c d later k)
]

module _ (x : LocalRule) (g : GoalOf) (cells : List Cell) where
  abbrev box : List Cell
  box = box_cells x (goal_reach g)

  abbrev reads : List Cell
  reads = flat_map (read_cells x) cells

  pub near_ascends : IsStrictlySortedBy cell_cmp (near_cells x g cells)
  near_ascends = sorted-in_order (box ++ reads)

  pub near_has_read : (d c : Cell) → Contains cells d → Contains (reads_at x d.node) c → Contains (near_cells x g cells) (shifted d.position c)
  near_has_read d c there read =
      let e = shifted d.position c in
      let moved = Contains-map (shifted d.position) (cells_at x d.node) c ((in_order_members (reads_at x d.node) c).1 read) in
      (in_order_members (box ++ reads) e).1 (Contains-append_right box reads e (flat_map_has (read_cells x) cells d e there moved))

  pub near_has_box : (c : Cell) → is_box_cell x (goal_reach g) c ≡ true → Contains (near_cells x g cells) c
  near_has_box c h =
      let k = box_index x (goal_reach g) c in
      let at = box_cell_there x (goal_reach g) c h in
      let there : Contains box c = (k, slice_get_within box k c at, get_or_from_slice_get box k c c at) in
      (in_order_members (box ++ reads) c).1 (Contains-append_left box reads c there)

  abbrev has_node : Cell → Bool
  has_node c = nat_lt c.node x.nodes

  pub near_nodes : IsRule x → All (λ (d : Cell). d.node < x.nodes) cells → All (λ (c : Cell). c.node < x.nodes) (near_cells x g cells)
  near_nodes rule nodes =
      let in_the_box : list_all has_node box ≡ true =
      members_pass has_node box (λ c there. (and_parts (in_box x.dimension (goal_reach g) c.position) (nat_lt c.node x.nodes) (member_is_box_cell x (goal_reach g) c there)).1) in
      let at : (d : Cell) → Contains cells d → list_all has_node (read_cells x d) ≡ true =
      λ d there.
      list_all-map has_node (shifted d.position) (cells_at x d.node)
      ∙ (list_all-in_order has_node (reads_at x d.node) ∙ reads_nodes x d.node rule (All-contains (λ (e : Cell). e.node < x.nodes) cells d nodes there)) in
      let in_reads : list_all has_node reads ≡ true = list_all-flat_map has_node (read_cells x) cells ∙ members_pass (λ d. list_all has_node (read_cells x d)) cells at in
      let all : list_all has_node (near_cells x g cells) ≡ true =
      list_all-in_order has_node (box ++ reads) ∙ (list_all-append has_node box reads ∙ and_from (list_all has_node box) (list_all has_node reads) in_the_box in_reads) in
      All-from_contains (λ (c : Cell). c.node < x.nodes) (near_cells x g cells) (λ c there. ltb-true c.node x.nodes (passes_member has_node (near_cells x g cells) c all there))
