-- The listed cells of a region are in cell order, have nodes of the rule and are in range. The cells of the grown domain are those of the ground.
use Rattle.std.proofs.Common.{◌≡◌, ◌<◌, ◌≤◌, ◌+◌, ℕ, zero, suc, List, [], ◌∷◌, map, refl, sym, ◌∙◌, ap, subst, inl, inr, arith}
use Rattle.std.proofs.lemmas.List.Elements.{Contains-append_cases}
use Rattle.std.specs.{List.All, List.Contains, List.range_with_len, List.Sorted.IsStrictlySortedBy, Cmp.nat_cmp_is, Cmp.tied_itself}
use Rattle.std.specs.declared.cmp.Ordering.TheVariants.{Less}
use Rattle.dd_lattice.specs.{Place.Place, Place.IsInRange, Cells.cell, Order.place_cmp, Order.cell_cmp}
use Rattle.dd_lattice.specs.{Regions.IsRegionOf, Regions.IsNearby, declared.position.Cell.Cell, lemmas.InOrderLaws.place_total}
use Rattle.dd_values.specs.lemmas.Members.{Contains-nil, Contains-from_map, Contains-cons_cases, Contains-first, Contains-later, sorted_append, sorted_first, sorted_rest}
use Rattle.dd_values.specs.lemmas.Lists.{all_map, all_flat_map}
use Rattle.dd_formula.specs.LocalRule.{LocalRule}
use Rattle.dd_boxes.specs.Cells.{cells_on}
use Rattle.dd_rows.specs.{Domains.IsInDomain, Domains.IsGround, listing.Levels.AreOf, listing.Levels.AreInRange, lemmas.Growing.range_below}

-- the position of the cell c is in the list
record IsAt (ps : List Place) (c : Cell) : Type 0 where
  at : Contains ps c.position

cell_at : (n : ℕ) (ps : List Place) (c : Cell) → Contains (cells_on n ps) c → IsAt ps c
cell_at n [] c h = absurd (Contains-nil c h)
cell_at n (p ∷ ps) c h = elim (Contains-append_cases (map (cell p) (range_with_len 0 n)) (cells_on n ps) c h) [
  | inl here ↦
      let from = Contains-from_map (cell p) (range_with_len 0 n) c here in
      let same : p ≡ c.position = sym (ap (λ (d : Cell). d.position) from.2) in
      record { at = subst (Contains (p ∷ ps)) same (Contains-first p ps) }
  | inr there ↦ record { at = Contains-later p ps c.position (cell_at n ps c there).at }
]

before_by_place : (c d : Cell) → place_cmp c.position d.position ≡ Less → cell_cmp c d ≡ Less
before_by_place c d h = rw h refl

before_by_node : (p : Place) (a b : ℕ) → a < b → cell_cmp (cell p a) (cell p b) ≡ Less
before_by_node p a b less = rw (tied_itself place_total p, sym (nat_cmp_is a b Less less)) refl

range_from : (k n a : ℕ) → Contains (range_with_len k n) a → k ≤ a
range_from k zero a c = absurd (Contains-nil a c)
range_from k (suc n) a c = elim (Contains-cons_cases k (range_with_len (k + 1) n) a c) [
  | inl same ↦ omega (arith, same)
  | inr there ↦ let later = range_from (k + 1) n a there in omega arith
]

one_member : (k a : ℕ) → Contains (k ∷ []) a → a ≤ k
one_member k a c = elim (Contains-cons_cases k [] a c) [
  | inl same ↦ omega (arith, same)
  | inr none ↦ absurd (Contains-nil a none)
]

ascends_empty : IsStrictlySortedBy cell_cmp []
unfolding IsStrictlySortedBy
ascends_empty = tt

ascends_one : (c : Cell) → IsStrictlySortedBy cell_cmp (c ∷ [])
unfolding IsStrictlySortedBy
ascends_one c = (tt, tt)

nodes_ascend : (p : Place) (k n : ℕ) → IsStrictlySortedBy cell_cmp (map (cell p) (range_with_len k n))
nodes_ascend p k zero = ascends_empty
nodes_ascend p k (suc n) =
    sorted_append cell_cmp (cell p k ∷ []) (map (cell p) (range_with_len (k + 1) n)) (ascends_one (cell p k)) (nodes_ascend p (k + 1) n)
    (λ c d h h'.
    let first = Contains-from_map (cell p) (k ∷ []) c h in
    let other = Contains-from_map (cell p) (range_with_len (k + 1) n) d h' in
    let least : first.0 ≤ k = one_member k first.0 first.1 in
    let more = range_from (k + 1) n other.0 other.1 in
    rw (first.2, other.2) (before_by_node p first.0 other.0 (omega (arith, least, more))))

pub cells_ascend : (n : ℕ) (ps : List Place) → IsStrictlySortedBy place_cmp ps → IsStrictlySortedBy cell_cmp (cells_on n ps)
cells_ascend n [] up = ascends_empty
cells_ascend n (p ∷ ps) up =
    sorted_append cell_cmp (map (cell p) (range_with_len 0 n)) (cells_on n ps) (nodes_ascend p 0 n) (cells_ascend n ps (sorted_rest place_cmp p ps up))
    (λ c d h h'.
    let from = Contains-from_map (cell p) (range_with_len 0 n) c h in
    let there = cell_at n ps d h' in
    rw from.2 (before_by_place (cell p from.0) d (sorted_first place_cmp p ps up d.position there.at)))

pub cells_of_nodes : (x : LocalRule) (ps : List Place) → AreOf x (cells_on x.nodes ps)
cells_of_nodes x ps = all_flat_map (λ c. c.node < x.nodes) (λ p. Unit {0}) (λ p. map (cell p) (range_with_len 0 x.nodes))
    (λ p _. all_map (λ c. c.node < x.nodes) (λ a. a < x.nodes) (cell p) (λ a h. h) (range_with_len 0 x.nodes) (range_below x.nodes)) ps (λ k d h. tt)

pub cells_in_range : (n : ℕ) (ps : List Place) → All IsInRange ps → AreInRange (cells_on n ps)
cells_in_range n ps near = all_flat_map (λ c. IsInRange c.position) IsInRange (λ p. map (cell p) (range_with_len 0 n))
    (λ p h. all_map (λ c. IsInRange c.position) (λ a. Unit {0}) (cell p) (λ a _. h) (range_with_len 0 n) (λ k d w. tt)) ps near

-- the cells of the grown domain are those of the ground
pub ground_from : (x : LocalRule) (radius margin : ℕ) (vs domain region : List Place) (cs : List Cell) → IsRegionOf (IsInDomain x.dimension radius vs) domain →
    IsRegionOf (IsNearby x.dimension margin domain) region → cs ≡ cells_on x.nodes region → IsGround x radius margin vs cs
ground_from x radius margin vs domain region cs inner outer is = record {
  positions = region;
  region = record {
    region = outer.region;
    members = λ p. (λ h. let q = (outer.members p).0 h in (q.0, (inner.members q.0).0 q.1, q.2), λ g. (outer.members p).1 (g.0, (inner.members g.0).1 g.1, g.2));
  };
  cells = is;
}

-- cs lists the cells of the ground, in cell order; they have nodes of the rule and are in range
pub record IsGroundInOrder (x : LocalRule) (radius margin : ℕ) (vs : List Place) (cs : List Cell) : Type 0 where
  pub ground : IsGround x radius margin vs cs
  pub order : IsStrictlySortedBy cell_cmp cs
  pub nodes : AreOf x cs
  pub near : AreInRange cs

pub grounded : (x : LocalRule) (radius margin : ℕ) (vs : List Place) (d n : ℕ) (domain region list : List Place) (cs : List Cell) → d ≡ x.dimension → n ≡ x.nodes →
    IsRegionOf (IsInDomain d radius vs) domain → IsRegionOf (IsNearby d margin domain) region → list ≡ region → cs ≡ cells_on n list → IsGroundInOrder x radius margin vs cs
grounded x radius margin vs d n domain region list cs dim nodes inner outer same is =
    let inner' : IsRegionOf (IsInDomain x.dimension radius vs) domain = subst (λ e. IsRegionOf (IsInDomain e radius vs) domain) dim inner in
    let outer' : IsRegionOf (IsNearby x.dimension margin domain) region = subst (λ e. IsRegionOf (IsNearby e margin domain) region) dim outer in
    let is' : cs ≡ cells_on x.nodes region = is ∙ (ap (λ m. cells_on m list) nodes ∙ ap (cells_on x.nodes) same) in
    record {
      ground = ground_from x radius margin vs domain region cs inner' outer' is';
      order = subst (IsStrictlySortedBy cell_cmp) (sym is') (cells_ascend x.nodes region outer.region.ascending);
      nodes = subst (AreOf x) (sym is') (cells_of_nodes x region);
      near = subst AreInRange (sym is') (cells_in_range x.nodes region outer.region.in_range);
    }
