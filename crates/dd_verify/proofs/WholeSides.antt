-- The grown box consists of the positions of Z^d that are at most e away from a box along each axis. If each admissible filling of the grown box
-- weighs at least a given number on the box, so does each configuration of allowed symbols that obeys the rule.
use Rattle.std.proofs.Common.{◌≡◌, ◌<◌, ◌≤◌, ◌+◌, ◌*◌, ◌^◌, ℕ, Bool, true, false, List, length, refl, ap, ◌∙◌, arith, None}
use Rattle.std.proofs.lemmas.Bool.{and_parts, and_from, cond_both, lt-ltb, ltb-true}
use Rattle.std.proofs.{lemmas.Bool.Decides.Decides-int_eq, lemmas.Int.ints, Math.Nat.mul-le-mul}
use Rattle.std.specs.Prelude.{◌&&◌, ◌||◌, ℤ, pos, ◌+ℤ◌, ◌-ℤ◌, cond, nat_lt, int_le, int_lt, is_some, unwrap_or}
use Rattle.std.specs.{List.range_with_len, Ordering.int_eq}
use Rattle.dd_lattice.specs.{Place.Place, Cells.cell, Cells.shifted, Boxes.is_active, declared.position.Cell.Cell}
use Rattle.dd_pattern.specs.{Reading.Look, Weight.total_weight}
use Rattle.dd_expansion.specs.Placed.{is_flat}
use Rattle.dd_formula.specs.{LocalRule.LocalRule, LocalRule.IsRule, LocalRule.rule_allows, Living.Obeys}
use Rattle.dd_boxes.specs.{Fillings.Admissible, Fillings.IsConfiguration, lemmas.RuleLaws.reads_given, lemmas.RuleLaws.keeps_at}
use Rattle.dd_boxes.specs.lemmas.CutLaws.{cond_symbols}
use Rattle.dd_discharge.specs.{declared.bound.Bound.Bound, Amounts.held_over}
use Rattle.dd_sides.specs.Sides.{side_length, side, is_near_run, is_in_grown, is_grown_cell, IsSideFilling, position_weight, side_weight}
use Rattle.dd_sides.specs.{Boundaries.boundary, Lifted.reach_of, Lifted.HoldsOnSides, lemmas.BoxLaws.IsAt, lemmas.BoxLaws.box_at_most}
use Rattle.dd_sides.specs.lemmas.GroundCells.{active_first, range_below}
use Rattle.dd_values.specs.lemmas.{Booleans.cond_domain, Lists.map_agree}

-- ---- the grown box lies in Z^d

near_flat : (active : Bool) (n e : ℕ) (a c : ℤ) → is_near_run active n e a c ≡ true → (active || int_eq c (pos 0)) ≡ true
near_flat true n e a c h = refl
near_flat false n e a c h = h

grown_flat : (d n e : ℕ) (u p : Place) → is_in_grown d n e u p ≡ true → is_flat d p ≡ true
grown_flat d n e u p h =
    let on_x = is_near_run (is_active d 0) n e u.x p.x in
    let on_y = is_near_run (is_active d 1) n e u.y p.y in
    let on_z = is_near_run (is_active d 2) n e u.z p.z in
    let outer = and_parts (on_x && on_y) on_z h in
    let inner = and_parts on_x on_y outer.0 in
    and_from (nat_lt 1 d || int_eq p.y (pos 0)) (nat_lt 2 d || int_eq p.z (pos 0)) (near_flat (is_active d 1) n e u.y p.y inner.1) (near_flat (is_active d 2) n e u.z p.z outer.1)

-- ---- the box lies in the grown box

on_near : (n e i : ℕ) (a c : ℤ) → i < n → c ≡ a +ℤ pos i → (int_le (a -ℤ pos e) c && int_lt c (a +ℤ pos (n + e))) ≡ true
on_near n e i a c low is = grind (arith, ints)

at_zero : (i : ℕ) (a c : ℤ) → i < 1 → c ≡ a +ℤ pos i → a ≡ pos 0 → c ≡ pos 0
at_zero i a c low is none = omega (arith, ints, low, is, none)

run_near : (active : Bool) (n e i : ℕ) (a c : ℤ) → i < side_length active n → c ≡ a +ℤ pos i → (active || int_eq a (pos 0)) ≡ true → is_near_run active n e a c ≡ true
run_near true n e i a c low is flat = on_near n e i a c low is
run_near false n e i a c low is flat = (Decides-int_eq c (pos 0)).1 (at_zero i a c low is ((Decides-int_eq a (pos 0)).0 flat))

at_grown : (d n e : ℕ) (u p : Place) → 1 ≤ d → is_flat d u ≡ true → IsAt (side d n) u p → is_in_grown d n e u p ≡ true
at_grown d n e u p some flat at =
    let parts = and_parts (nat_lt 1 d || int_eq u.y (pos 0)) (nat_lt 2 d || int_eq u.z (pos 0)) flat in
    let on_x = run_near (is_active d 0) n e at.i u.x p.x at.i_below (ap (λ (q : Place). q.x) at.is) (active_first d (int_eq u.x (pos 0)) some) in
    let on_y = run_near (is_active d 1) n e at.j u.y p.y at.j_below (ap (λ (q : Place). q.y) at.is) parts.0 in
    let on_z = run_near (is_active d 2) n e at.k u.z p.z at.k_below (ap (λ (q : Place). q.z) at.is) parts.1 in
    and_from _ _ (and_from _ _ on_x on_y) on_z

-- ---- the part of a configuration in the grown box

as_much : (a b : ℕ) → a ≡ b → a ≤ b
as_much a b same = omega (arith, same)

module _ (x : LocalRule) (n e : ℕ) (u : Place) (look : Look) where
  abbrev part : Look
  part c = cond (is_grown_cell x n e u c) (look c) None

  part_agrees : (c : Cell) → is_some (part c) ≡ true → part c ≡ look c
  part_agrees c = cond_both (is_grown_cell x n e u c) (look c) None (λ o. is_some o ≡ true → o ≡ look c) (λ _ _. refl) (λ _ h. absurd (cc))

  part_filling : IsConfiguration x look → IsSideFilling x n e u part
  part_filling whole = record {
    domain = λ c. cond_domain (is_grown_cell x n e u c) (look c) (λ h.
        let both = and_parts (is_in_grown x.dimension n e u c.position) (nat_lt c.node x.nodes) h in
        whole.everywhere c (grown_flat x.dimension n e u c.position both.0) (ltb-true c.node x.nodes both.1));
    allowed = λ c. cond_symbols (λ s. rule_allows x c.node s ≡ true) (is_grown_cell x n e u c) (look c) (whole.allowed c);
  }

  part_admissible : Obeys x look → Admissible x part
  part_admissible obeys v a level node h =
      let both = and_parts (is_some (part (cell v a))) (reads_given x part v a) h in
      keeps_at x part look v v a (λ c. part_agrees (shifted v c)) both.1 ∙ obeys v a level node

  module _ (ws : List ℕ) (some : 1 ≤ x.dimension) (flat : is_flat x.dimension u ≡ true) where
    part_position : (p : Place) → IsAt (side x.dimension n) u p → position_weight x ws part p ≡ position_weight x ws look p
    part_position p at =
        ap (total_weight ws)
        (map_agree (λ a. unwrap_or (part (cell p a)) 0) (λ a. unwrap_or (look (cell p a)) 0) (range_with_len 0 x.nodes) (λ a h.
        let near = at_grown x.dimension n e u p some flat at in
        ap (λ (b : Bool). unwrap_or (cond b (look (cell p a)) None) 0)
        (and_from (is_in_grown x.dimension n e u p) (nat_lt a x.nodes) near (lt-ltb a x.nodes (range_below x.nodes a h)))))

    part_weight : side_weight x ws part n u ≤ side_weight x ws look n u
    part_weight =
        box_at_most (side x.dimension n) u (position_weight x ws part) (position_weight x ws look)
        (λ p at. as_much (position_weight x ws part p) (position_weight x ws look p) (part_position p at))

heavier : (held q w more edge : ℕ) → held ≤ q * w + edge → w ≤ more → held ≤ q * more + edge
heavier held q w more edge heavy le =
    let same : q ≤ q = omega arith in
    let times : q * w ≤ q * more = mul-le-mul same le in
    omega (arith, heavy, times)

pub configurations_hold : (x : LocalRule) (ws : List ℕ) (radius margin : ℕ) (vs : List Place) (b : Bound) → IsRule x → (h : HoldsOnSides x ws radius margin vs b) →
    (n : ℕ) (u : Place) (look : Look) → 1 ≤ n → is_flat x.dimension u ≡ true → IsConfiguration x look → Obeys x look →
    held_over b * n ^ x.dimension ≤ b.common * side_weight x ws look n u + boundary x.dimension n (length h.program.patterns) vs b.amounts
configurations_hold x ws radius margin vs b rule h n u look some flat whole obeys =
    let e = reach_of radius margin vs in
    heavier (held_over b * n ^ x.dimension) b.common (side_weight x ws (part x n e u look) n u) (side_weight x ws look n u)
    (boundary x.dimension n (length h.program.patterns) vs b.amounts)
    (h.heavy n u (part x n e u look) some flat (part_filling x n e u look whole) (part_admissible x n e u look obeys))
    (part_weight x n e u look ws rule.dimension.0 flat)
