-- What `is_in_box`, `box_sum` and `is_in_grown` mean for boxes of every side length.
use Rattle.std.proofs.Common.{◌≡◌, ◌+◌, ◌≤◌, ℕ, zero, suc, Bool, true, false, cond, sym, ap, ◌∙◌, inl, inr, arith}
use Rattle.std.proofs.lemmas.Bool.{and_parts, and_from, cases_Bool, false≢true}
use Rattle.std.proofs.lemmas.{Bool.Decides.Decides-int_eq, Int.ints}
use Rattle.std.specs.Prelude.{◌↔◌, ◌&&◌, ◌||◌, ℤ, pos, ◌+ℤ◌, ◌-ℤ◌, ◌≤ℤ◌, ◌<ℤ◌, int_le, int_lt, nat_lt}
use Rattle.std.specs.Ordering.{int_eq}
use Rattle.dd_lattice.specs.Place.{Place, place}
use Rattle.dd_lattice.specs.{Boxes.is_active, Boxes.OnAxis, Boxes.IsUpTo, Boxes.IsAmong, Boxes.IsCentred, Boxes.IsInSide, Regions.seen_from}
use Rattle.dd_expansion.specs.Placed.{is_flat}
use Rattle.dd_sides.specs.Sums.{Size, axis_sum, box_sum, is_on, is_in_box}
use Rattle.dd_sides.specs.Sides.{side_length, side, is_near_run, is_in_grown, one_only, IsSide}
use Rattle.dd_sides.specs.lemmas.AxisLaws.{axis_same}
use Rattle.dd_sides.proofs.{CountLaws.axis_cond, CountLaws.each_axis, SideLaws.first_active}
use Rattle.dd_values.specs.lemmas.Numbers.{le_from, le_to, lt_from}

lt_to : (x y : ℤ) → int_lt x y ≡ true → x <ℤ y
lt_to x y h = grind (arith, ints)

-- ---- the positions

record IsBetween (n : ℕ) (a c : ℤ) : Type 0 where
  low : a ≤ℤ c
  high : c <ℤ (a +ℤ pos n)

on_from : (n : ℕ) (a c : ℤ) → IsBetween n a c → is_on n a c ≡ true
on_from n a c h = and_from _ _ (le_from a c h.low) (lt_from c (a +ℤ pos n) h.high)

on_to : (n : ℕ) (a c : ℤ) → is_on n a c ≡ true → IsBetween n a c
on_to n a c h = let parts = and_parts (int_le a c) (int_lt c (a +ℤ pos n)) h in record { low = le_to a c parts.0; high = lt_to c (a +ℤ pos n) parts.1 }

run_to : (active : Bool) (n : ℕ) (a c : ℤ) → is_on (side_length active n) a c ≡ true → OnAxis active (IsAmong n) (c -ℤ a)
run_to true n a c h =
    let b = on_to n a c h in
    let low = b.low in
    let high = b.high in
    record { low = omega (arith, ints, low); high = omega (arith, ints, high) }
run_to false n a c h =
    let b = on_to 1 a c h in
    let low = b.low in
    let high = b.high in
    omega (arith, ints, low, high)

run_from : (active : Bool) (n : ℕ) (a c : ℤ) → OnAxis active (IsAmong n) (c -ℤ a) → is_on (side_length active n) a c ≡ true
run_from true n a c h =
    let low = h.low in
    let high = h.high in
    on_from n a c (record { low = omega (arith, ints, low); high = omega (arith, ints, high) })
run_from false n a c h = on_from 1 a c (record { low = omega (arith, ints, h); high = omega (arith, ints, h) })

side_positions : (d n : ℕ) (u p : Place) → (is_in_box (side d n) u p ≡ true) ↔ IsInSide d n (seen_from u p)
side_positions d n u p =
    let X = is_on (side_length (is_active d 0) n) u.x p.x in
    let Y = is_on (side_length (is_active d 1) n) u.y p.y in
    let Z = is_on (side_length (is_active d 2) n) u.z p.z in (
      λ h.
          let outer = and_parts (X && Y) Z h in
          let inner = and_parts X Y outer.0 in
          record { on_x = run_to (is_active d 0) n u.x p.x inner.0; on_y = run_to (is_active d 1) n u.y p.y inner.1; on_z = run_to (is_active d 2) n u.z p.z outer.1 },
      λ h.
          and_from (X && Y) Z
          (and_from X Y (run_from (is_active d 0) n u.x p.x h.on_x) (run_from (is_active d 1) n u.y p.y h.on_y))
          (run_from (is_active d 2) n u.z p.z h.on_z),
    )

-- ---- a sum counts each position once

on_past : (n : ℕ) (a q : ℤ) → a +ℤ pos n ≡ q → is_on n a q ≡ false
on_past n a q e = grind (arith, ints)

on_last : (n : ℕ) (a q : ℤ) → a +ℤ pos n ≡ q → is_on (suc n) a q ≡ true
on_last n a q e = on_from (suc n) a q (record { low = omega (arith, ints, e); high = omega (arith, ints, e) })

on_more : (n : ℕ) (a q : ℤ) → (a +ℤ pos n ≡ q → ⊥) → is_on (suc n) a q ≡ is_on n a q
on_more n a q apart = elim (cases_Bool (is_on n a q)) [
  | inl there ↦
      let b = on_to n a q there in
      let low = b.low in
      let high = b.high in
      on_from (suc n) a q (record { low = low; high = omega (arith, ints, high) }) ∙ sym there
  | inr none ↦ elim (cases_Bool (is_on (suc n) a q)) [
    | inl there ↦
        let b = on_to (suc n) a q there in
        let low = b.low in
        let high = b.high in
        let before : q <ℤ (a +ℤ pos n) = below n a q high apart in
        absurd (false≢true (sym none ∙ on_from n a q (record { low = low; high = before })))
    | inr past ↦ past ∙ sym none
  ]
]
  where
    below : (n : ℕ) (a q : ℤ) → q <ℤ (a +ℤ pos (suc n)) → (a +ℤ pos n ≡ q → ⊥) → q <ℤ (a +ℤ pos n)
    below n a q h apart = grind (arith, ints)

none_on : (n : ℕ) (a q : ℤ) (k : ℕ) → is_on n a q ≡ false → cond (is_on n a q) k 0 ≡ 0
none_on n a q k e = ap (λ (b : Bool). cond b k 0) e

axis_once : (n : ℕ) (a q : ℤ) (k : ℕ) → axis_sum n a (λ c. cond (int_eq c q) k 0) ≡ cond (is_on n a q) k 0
axis_once zero a q k = sym (ap (λ (b : Bool). cond b k 0) (never a q))
  where
    never : (a q : ℤ) → is_on 0 a q ≡ false
    never a q = grind (arith, ints)
axis_once (suc n) a q k = elim (cases_Bool (int_eq (a +ℤ pos n) q)) [
  | inl here ↦
      let same : a +ℤ pos n ≡ q = (Decides-int_eq (a +ℤ pos n) q).0 here in
      let before = axis_once n a q k ∙ none_on n a q k (on_past n a q same) in
      let now : cond (int_eq (a +ℤ pos n) q) k 0 ≡ k = ap (λ (b : Bool). cond b k 0) here in
      let all : cond (is_on (suc n) a q) k 0 ≡ k = ap (λ (b : Bool). cond b k 0) (on_last n a q same) in
      summed _ _ _ k before now all
  | inr there ↦
      let apart : a +ℤ pos n ≡ q → ⊥ = λ e. false≢true (sym there ∙ (Decides-int_eq (a +ℤ pos n) q).1 e) in
      let now : cond (int_eq (a +ℤ pos n) q) k 0 ≡ 0 = ap (λ (b : Bool). cond b k 0) there in
      let all : cond (is_on (suc n) a q) k 0 ≡ cond (is_on n a q) k 0 = ap (λ (b : Bool). cond b k 0) (on_more n a q apart) in
      kept _ _ _ _ (axis_once n a q k) now all
]
  where
    summed : (s t w k : ℕ) → s ≡ 0 → t ≡ k → w ≡ k → s + t ≡ w
    summed s t w k e f g = omega (arith, e, f, g)

    kept : (s t w v : ℕ) → s ≡ v → t ≡ 0 → w ≡ v → s + t ≡ w
    kept s t w v e f g = omega (arith, e, f, g)

box_once : (s : Size) (u q : Place) → box_sum s u (one_only q) ≡ cond (is_in_box s u q) 1 0
box_once s u q =
    axis_same s.z u.z _ _ (λ z.
    axis_same s.y u.y _ _ (λ y.
    axis_same s.x u.x _ _ (λ x. each_axis (int_eq x q.x) (int_eq y q.y) (int_eq z q.z))
    ∙ (axis_cond s.x u.x (int_eq z q.z) (λ x. cond (int_eq y q.y) (cond (int_eq x q.x) 1 0) 0)
    ∙ ap (λ (m : ℕ). cond (int_eq z q.z) m 0)
    (axis_cond s.x u.x (int_eq y q.y) (λ x. cond (int_eq x q.x) 1 0)
    ∙ ap (λ (m : ℕ). cond (int_eq y q.y) m 0) (axis_once s.x u.x q.x 1))))
    ∙ (axis_cond s.y u.y (int_eq z q.z) (λ y. cond (int_eq y q.y) (cond (is_on s.x u.x q.x) 1 0) 0)
    ∙ ap (λ (m : ℕ). cond (int_eq z q.z) m 0) (axis_once s.y u.y q.y (cond (is_on s.x u.x q.x) 1 0))))
    ∙ (axis_once s.z u.z q.z (cond (is_on s.y u.y q.y) (cond (is_on s.x u.x q.x) 1 0) 0)
    ∙ sym (each_axis (is_on s.x u.x q.x) (is_on s.y u.y q.y) (is_on s.z u.z q.z)))

-- ---- grown boxes

-- a coordinate of the run that is within e of c
record IsNearRun (active : Bool) (n e : ℕ) (a c : ℤ) : Type 0 where
  from : ℤ
  there : OnAxis active (IsAmong n) (from -ℤ a)
  near : OnAxis active (IsUpTo e) (c -ℤ from)

-- the nearest coordinate: the first, the last or c itself
nearest : (n e : ℕ) (a c : ℤ) → 1 ≤ n → (a -ℤ pos e) ≤ℤ c → c <ℤ (a +ℤ pos (n + e)) → IsNearRun true n e a c
nearest n e a c some low high = elim (cases_Bool (int_le a c)) [
  | inr before ↦
      let under : c <ℤ a = lower a c before in
      record { from = a; there = record { low = omega (arith, ints); high = omega (arith, ints, some) }; near = record { low = omega (arith, ints, low); high = omega (arith, ints, under) } }
  | inl past ↦
      let over : a ≤ℤ c = le_to a c past in
      elim (cases_Bool (int_lt c (a +ℤ pos n))) [
        | inl within ↦
            let under : c <ℤ (a +ℤ pos n) = lt_to c (a +ℤ pos n) within in
            record { from = c; there = record { low = omega (arith, ints, over); high = omega (arith, ints, under) }; near = record { low = omega (arith, ints); high = omega (arith, ints) } }
        | inr far ↦
            let beyond : (a +ℤ pos n) ≤ℤ c = upper c (a +ℤ pos n) far in
            let last = (a +ℤ pos n) -ℤ pos 1 in
            record { from = last; there = record { low = omega (arith, ints, some); high = omega (arith, ints) }; near = record { low = omega (arith, ints, beyond); high = omega (arith, ints, high) } }
      ]
]
  where
    lower : (a c : ℤ) → int_le a c ≡ false → c <ℤ a
    lower a c h = grind (arith, ints)

    upper : (c b : ℤ) → int_lt c b ≡ false → b ≤ℤ c
    upper c b h = grind (arith, ints)

level : (a c : ℤ) → a ≡ pos 0 → c ≡ pos 0 → IsNearRun false 0 0 a c
level a c e f = record { from = pos 0; there = omega (arith, ints, e); near = omega (arith, ints, f) }

grown_to : (active : Bool) (n e : ℕ) (a c : ℤ) → 1 ≤ n → (active || int_eq a (pos 0)) ≡ true → is_near_run active n e a c ≡ true → IsNearRun active n e a c
grown_to true n e a c some flat h =
    let parts = and_parts (int_le (a -ℤ pos e) c) (int_lt c (a +ℤ pos (n + e))) h in
    nearest n e a c some (le_to (a -ℤ pos e) c parts.0) (lt_to c (a +ℤ pos (n + e)) parts.1)
grown_to false n e a c some flat h =
    let l = level a c ((Decides-int_eq a (pos 0)).0 flat) ((Decides-int_eq c (pos 0)).0 h) in
    record { from = l.from; there = l.there; near = l.near }

grown_from : (active : Bool) (n e : ℕ) (a c q : ℤ) → (active || int_eq a (pos 0)) ≡ true → OnAxis active (IsAmong n) (q -ℤ a) → OnAxis active (IsUpTo e) (c -ℤ q) → is_near_run active n e a c ≡ true
grown_from true n e a c q flat h k =
    let first = h.low in
    let last = h.high in
    let low = k.low in
    let high = k.high in
    and_from _ _ (le_from (a -ℤ pos e) c (omega (arith, ints, first, low))) (lt_from c (a +ℤ pos (n + e)) (omega (arith, ints, last, high)))
grown_from false n e a c q flat h k =
    let none : a ≡ pos 0 = (Decides-int_eq a (pos 0)).0 flat in
    (Decides-int_eq c (pos 0)).1 (omega (arith, ints, none, h, k))

module _ (d n e : ℕ) (u p : Place) (dimension : 1 ≤ d) (some : 1 ≤ n) (flat : is_flat d u ≡ true) where
  flat_x : (is_active d 0 || int_eq u.x (pos 0)) ≡ true
  flat_x = ap (λ (b : Bool). b || int_eq u.x (pos 0)) (first_active d dimension)

  flat_y : (is_active d 1 || int_eq u.y (pos 0)) ≡ true
  flat_y = (and_parts (nat_lt 1 d || int_eq u.y (pos 0)) (nat_lt 2 d || int_eq u.z (pos 0)) flat).0

  flat_z : (is_active d 2 || int_eq u.z (pos 0)) ≡ true
  flat_z = (and_parts (nat_lt 1 d || int_eq u.y (pos 0)) (nat_lt 2 d || int_eq u.z (pos 0)) flat).1

  abbrev X : Bool
  X = is_near_run (is_active d 0) n e u.x p.x

  abbrev Y : Bool
  Y = is_near_run (is_active d 1) n e u.y p.y

  abbrev Z : Bool
  Z = is_near_run (is_active d 2) n e u.z p.z

  grown_near : is_in_grown d n e u p ≡ true → (q : Place) × IsInSide d n (seen_from u q) × IsCentred d e (seen_from q p)
  grown_near h =
      let outer = and_parts (X && Y) Z h in
      let inner = and_parts X Y outer.0 in
      let x = grown_to (is_active d 0) n e u.x p.x some flat_x inner.0 in
      let y = grown_to (is_active d 1) n e u.y p.y some flat_y inner.1 in
      let z = grown_to (is_active d 2) n e u.z p.z some flat_z outer.1 in
      (place x.from y.from z.from, record { on_x = x.there; on_y = y.there; on_z = z.there }, record { on_x = x.near; on_y = y.near; on_z = z.near })

  near_grown : (q : Place) → IsInSide d n (seen_from u q) → IsCentred d e (seen_from q p) → is_in_grown d n e u p ≡ true
  near_grown q h k =
      and_from (X && Y) Z
      (and_from X Y (grown_from (is_active d 0) n e u.x p.x q.x flat_x h.on_x k.on_x) (grown_from (is_active d 1) n e u.y p.y q.y flat_y h.on_y k.on_y))
      (grown_from (is_active d 2) n e u.z p.z q.z flat_z h.on_z k.on_z)

pub side_is : (d n : ℕ) (u : Place) → 1 ≤ d → 1 ≤ n → is_flat d u ≡ true → IsSide d n u
side_is d n u dimension some flat = record {
  positions = λ p. side_positions d n u p;
  once = λ q. box_once (side d n) u q;
  grown = λ e p. (grown_near d n e u p dimension some flat, λ g. near_grown d n e u p dimension some flat g.0 g.1 g.2);
}
