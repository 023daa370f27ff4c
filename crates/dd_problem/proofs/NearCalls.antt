-- What is returned by the calls that list the cells that may be read on a torus.
use Rattle.std.proofs.Common.{◌≡◌, ℕ, ◌+◌, ◌*◌, ◌<◌, ◌≤◌, ◌^◌, Bool, true, false, List, [], ◌∷◌, ◌++◌, map, take, length, get_or, ap, sym, subst, ◌∙◌, arith, rules, Some, None, if◌then◌else◌, pos, ◌-ℤ◌}
use Rattle.std.proofs.lemmas.{Int.ints, Bool.le-leb, Nat.mul-le}
use Rattle.std.proofs.lemmas.List.{map_more, take_all, append_assoc}
use Rattle.std.specs.{Prelude.Option, Prelude.nat_le, Option.IsSome, List.All, List.list_all, List.flat_map}
use Rattle.dd_lattice.specs.{Place.Place, Place.moved, Place.is_in_range, Cells.shifted, InOrder.in_order}
use Rattle.dd_lattice.specs.Boxes.{Bounds, centred, span, spread, is_active, volume}
use Rattle.dd_lattice.specs.{declared.position.Cell.Cell, lemmas.InOrderLaws.list_all-in_order, lemmas.RangeLaws.test_from_in_range}
use Rattle.dd_topology.specs.Topology.{extent}
use Rattle.dd_formula.specs.LocalRule.{LocalRule, IsRule, reads_at, cells_at, is_near}
use Rattle.dd_formula.specs.lemmas.Cuts.{flat_more}
use Rattle.dd_boxes.specs.{Cells.box_cells, Goals.GoalOf, Boxes.goal_reach, Boxes.IsLeastRadius}
use Rattle.dd_problem.specs.{Layouts.cells_in, pushing.Near.read_cells, pushing.Near.near_cells, pushing.GoalFacts.HasGoalFacts}
use Rattle.dd_problem.specs.lemmas.Filtered.{some_same}
use Rattle.dd_problem.proofs.{TorusInputs.sum_in_range, TorusReach.facts_near, TorusReach.radius_is}

-- a position at most 16 from the origin can be moved by a position that is at least 16 from the border of the range
pub sum_there : (p v : Place) (o : Option Place) → extent p ≤ 16 → extent v ≤ 1048560 → o ≡ (if is_in_range (moved p v) then Some (moved p v) else None) → o ≡ Some (moved p v)
sum_there p v o near wide is = is ∙ ap (λ b. if b then Some (moved p v) else None) (test_from_in_range (moved p v) (sum_in_range p v near wide))

pub is_there : {X : Type 0} (o : Option X) (x : X) → o ≡ Some x → IsSome o
is_there o x is = subst IsSome (sym is) (search rules)

-- one more cell is moved
pub moved_more : (v : Place) (before now new : List Cell) (cells : List Cell) (i : ℕ) (c d : Cell) → i < length cells → c ≡ get_or cells i c → d ≡ shifted v c →
    now ≡ before ++ map (shifted v) (take i cells) → new ≡ now ++ d ∷ [] → new ≡ before ++ map (shifted v) (take (i + 1) cells)
moved_more v before now new cells i c d below is made so_far pushed =
    let some = map (shifted v) (take i cells) in
    pushed
    ∙ (ap (λ cs. cs ++ d ∷ []) so_far
    ∙ (append_assoc before some (d ∷ [])
    ∙ ap (λ cs. before ++ cs) (ap (λ e. some ++ e ∷ []) (made ∙ ap (shifted v) is) ∙ sym (map_more (shifted v) cells i c below))))

pub moved_all : (v : Place) (before now : List Cell) (cells : List Cell) (i : ℕ) → length cells ≤ i → now ≡ before ++ map (shifted v) (take i cells) → now ≡ before ++ map (shifted v) cells
moved_all v before now cells i past so_far = so_far ∙ ap (λ cs. before ++ map (shifted v) cs) (take_all i cells past)

spread_few : (b : Bool) (n : ℕ) → n ≤ 16 → spread b n ≤ 16
spread_few true n small = small
spread_few false n small = omega arith

span_few : (s : ℕ) → s ≤ 16 → span (pos 0 -ℤ pos s) (pos s) ≤ 33
span_few s small = omega (arith, ints)

box_few : (d n nodes : ℕ) → n ≤ 16 → nodes ≤ 4 → volume (centred d n) * nodes ≤ 2 ^ 24
box_few d n nodes small few =
    let b = centred d n in
    let x = spread_few (is_active d 0) n small in
    let y = spread_few (is_active d 1) n small in
    let z = spread_few (is_active d 2) n small in
    let on_x : span b.low.x b.high.x ≤ 33 = span_few (spread (is_active d 0) n) x in
    let on_y : span b.low.y b.high.y ≤ 33 = span_few (spread (is_active d 1) n) y in
    let on_z : span b.low.z b.high.z ≤ 33 = span_few (spread (is_active d 2) n) z in
    let rest : span b.low.y b.high.y * span b.low.z b.high.z ≤ 1089 = mul-le (span b.low.y b.high.y) (span b.low.z b.high.z) 33 33 on_y on_z in
    let all : volume b ≤ 35937 = mul-le (span b.low.x b.high.x) (span b.low.y b.high.y * span b.low.z b.high.z) 33 1089 on_x rest in
    let most : volume b * nodes ≤ 143748 = mul-le (volume b) nodes 35937 4 all few in
    omega (arith, most)

-- the box of a goal's least radius
module _ (x : LocalRule) (g : GoalOf) (rule : IsRule x) (told : HasGoalFacts x g) (least d nodes : ℕ) (is : IsLeastRadius g least) (dim : d ≡ x.dimension) (same : nodes ≡ x.nodes)
    (o : Option Bounds) (made : o ≡ (if nat_le least 1048576 then Some (centred d least) else None)) where
  far : least ≡ goal_reach g
  far = radius_is x g least rule told is

  small : least ≤ 16
  small = let reach = facts_near x g told in omega (arith, far, reach)

  box_made : o ≡ Some (centred d least)
  box_made = made ∙ ap (λ b. if b then Some (centred d least) else None) (le-leb least 1048576 (let k = small in omega (arith, k)))

  pub box_there : IsSome o
  box_there = is_there o (centred d least) box_made

  module _ (b : Bounds) (given : o ≡ Some b) where
    bounds : b ≡ centred d least
    bounds = some_same b (centred d least) (sym given ∙ box_made)

    pub box_is_few : volume b * nodes ≤ 2 ^ 24
    box_is_few =
        let all = box_few d least nodes small (let four = rule.nodes.1 in omega (arith, same, four)) in
        subst (λ c. volume c * nodes ≤ 2 ^ 24) (sym bounds) all

    pub box_is : cells_in b nodes ≡ box_cells x (goal_reach g)
    box_is = ap (cells_in b) same ∙ (ap (λ c. cells_in c x.nodes) bounds ∙ (ap (λ k. cells_in (centred k least) x.nodes) dim ∙ ap (λ k. cells_in (centred x.dimension k) x.nodes) far))

pub reads_near : (x : LocalRule) (a : ℕ) (cs : List Cell) → IsRule x → a < x.nodes → cs ≡ cells_at x a → list_all is_near cs ≡ true
reads_near x a cs rule node read = ap (list_all is_near) read ∙ (list_all-in_order is_near (reads_at x a) ∙ rule.short a node)

-- what the premise reads at one more cell
pub near_more : (x : LocalRule) (box now new reads : List Cell) (cells : List Cell) (i : ℕ) (d : Cell) → i < length cells → d ≡ get_or cells i d → reads ≡ cells_at x d.node →
    now ≡ box ++ flat_map (read_cells x) (take i cells) → new ≡ now ++ map (shifted d.position) reads → new ≡ box ++ flat_map (read_cells x) (take (i + 1) cells)
near_more x box now new reads cells i d below is read so_far pushed =
    let some = flat_map (read_cells x) (take i cells) in
    pushed
    ∙ (ap (λ cs. cs ++ map (shifted d.position) reads) so_far
    ∙ (append_assoc box some (map (shifted d.position) reads)
    ∙ ap (λ cs. box ++ cs) (ap (λ cs. some ++ map (shifted d.position) cs) read ∙ sym (flat_more (read_cells x) cells i d below is))))

pub near_all : (x : LocalRule) (g : GoalOf) (now cells : List Cell) (i : ℕ) → length cells ≤ i → now ≡ box_cells x (goal_reach g) ++ flat_map (read_cells x) (take i cells) →
    in_order now ≡ near_cells x g cells
near_all x g now cells i past so_far =
    ap in_order (so_far ∙ ap (λ cs. box_cells x (goal_reach g) ++ flat_map (read_cells x) cs) (take_all i cells past))

pub item_of : (P : Cell → Type 0) (cells : List Cell) (i : ℕ) (d : Cell) → All P cells → i < length cells → d ≡ get_or cells i d → P d
item_of P cells i d all below is = subst P (sym is) (all i d below)
