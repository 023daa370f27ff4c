-- How far moves and balls reach, if all edges are short. An edge is short if it leads at most 4 along each axis. The extent of a position or an
-- offset is the greatest absolute value of its coordinates.
use Rattle.std.proofs.Common.{◌≡◌, ℕ, zero, suc, ◌+◌, ◌*◌, ◌≤◌, Bool, true, false, List, [], ◌∷◌, Option, Some, None, ℤ, pos, negsuc, ◌≤ℤ◌, arith, refl, ap, sym, inl, inr, unsigned_abs, subst}
use Rattle.std.proofs.lemmas.{Int.ints, Bool.and_parts, Bool.and_from, Bool.leb-true}
use Rattle.std.specs.{Prelude.nat_le, Prelude.cond, Prelude.IfSome, Prelude.if◌then◌else◌, List.find, List.list_all}
use Rattle.std.specs.Option.{option_map, option_and_then}
use lib.Dec.{T}
use Rattle.dd_lattice.specs.{Place.Place, Place.moved, Place.is_coordinate_in_range, Place.is_in_range, declared.position.Cell.Cell}
use Rattle.dd_lattice.specs.lemmas.RangeLaws.{in_range_from_test}
use Rattle.dd_values.specs.lemmas.{Members.All-from_contains, Numbers.le_from, Lists.passes}
use Rattle.dd_topology.specs.declared.edge.Edge.{Edge}
use Rattle.dd_topology.specs.Topology.{extent, are_short, leaves, end_of, step, in_range}
use Rattle.dd_topology.specs.{Balls.IsInBall, Balls.IsAdjacent, Balls.IsCellListOf, Balls.CellsLeaveRange, lemmas.ExtentLaws.extent_moved}
use Rattle.dd_expansion.specs.expanding.Near.{AreNear}

-- moving a position by an offset brings it nearer to the origin by at most the offset's extent
extent_back : (p by : Place) → extent p ≤ extent (moved p by) + extent by
extent_back p by = omega (arith, ints)

near_within : (c : ℤ) → unsigned_abs c ≤ 1048576 → is_coordinate_in_range c ≡ true
near_within c h =
    let low : negsuc 1048575 ≤ℤ c = omega (arith, ints) in
    let high : c ≤ℤ pos 1048576 = omega (arith, ints) in
    and_from _ _ (le_from _ _ low) (le_from _ _ high)

pub within_range : (p : Place) → extent p ≤ 1048576 → is_in_range p ≡ true
within_range p h =
    let x : is_coordinate_in_range p.x ≡ true = near_within p.x (omega arith) in
    let y : is_coordinate_in_range p.y ≡ true = near_within p.y (omega arith) in
    let z : is_coordinate_in_range p.z ≡ true = near_within p.z (omega arith) in
    and_from _ _ (and_from _ _ x y) z

found_at : {X : Type 0} (q : X → Bool) (t : Bool) (y x : X) (o : Option X) → q y ≡ true → (o ≡ Some x → q x ≡ true) → cond t (Some y) o ≡ Some x → q x ≡ true
found_at q true y x o h rest f = let same : y ≡ x = cc in subst (λ z. q z ≡ true) same h
found_at q false y x o h rest f = rest f

-- an item that is found in a list passes each test that all items of the list pass
found_passes : {X : Type 0} (p q : X → Bool) (xs : List X) (x : X) → list_all q xs ≡ true → find p xs ≡ Some x → q x ≡ true
found_passes p q [] x h f = absurd (cc)
found_passes p q (y ∷ ys) x h f =
    let both = and_parts (q y) (list_all q ys) h in found_at q (p y) y x (find p ys) both.0 (λ g. found_passes p q ys x both.1 g) f

-- an edge that is found among short ones is short
found_short : (p : Edge → Bool) (es : List Edge) (e : Edge) → are_short 4 es ≡ true → find p es ≡ Some e → extent e.offset ≤ 4
found_short p es e h f = leb-true _ _ (found_passes p (λ e. nat_le (extent e.offset) 4) es e h f)

ends_near : (es : List Edge) (c : Cell) (p : Edge → Bool) → are_short 4 es ≡ true → (r : Option Edge) → find p es ≡ r →
    IfSome (option_map (end_of c) r) (λ to. extent to.position ≤ extent c.position + 4)
ends_near es c p short None is = tt
ends_near es c p short (Some e) is = omega (arith, found_short p es e short is, extent_moved c.position e.offset)

-- a move leads at most 4 further from the origin
pub step_near : (es : List Edge) (c : Cell) (label : ℕ) → are_short 4 es ≡ true → IfSome (step es c label) (λ to. extent to.position ≤ extent c.position + 4)
step_near es c label short = ends_near es c (leaves c label) short (find (leaves c label) es) refl

stays : (r : Option Cell) (n : ℕ) → IfSome r (λ to. extent to.position ≤ n) → n ≤ 1048576 → option_and_then in_range r ≡ r
stays None n near small = refl
stays (Some to) n near small = ap (λ b. if b then Some to else None) (within_range to.position (omega (arith, near)))

-- a move from a cell whose extent is at most 2^20 - 4 leads to a cell in range
pub step_stays : (es : List Edge) (c : Cell) (label : ℕ) → are_short 4 es ≡ true → extent c.position + 4 ≤ 1048576 → option_and_then in_range (step es c label) ≡ step es c label
step_stays es c label short small = stays (step es c label) (extent c.position + 4) (step_near es c label short) small

adjacent_near : (es : List Edge) (a b : Cell) → are_short 4 es ≡ true → IsAdjacent es a b → extent b.position ≤ extent a.position + 4
adjacent_near es a b short (e, there, ways) =
    let small : extent e.offset ≤ 4 = leb-true _ _ (passes (λ e. nat_le (extent e.offset) 4) es e short there) in
    elim ways [
      | inl forth ↦ subst (λ d. extent d.position ≤ extent a.position + 4) (sym forth.1) (omega (arith, extent_moved a.position e.offset, small))
      | inr back ↦ subst (λ d. extent b.position ≤ extent d.position + 4) (sym back.1) (omega (arith, extent_back b.position e.offset, small))
    ]

-- the cells of a ball of radius r lie at most 4r further from the origin than its centre
pub in_ball_near : (es : List Edge) (c : Cell) (r : ℕ) (d : Cell) → are_short 4 es ≡ true → IsInBall es c r d → extent d.position ≤ extent c.position + 4 * r
in_ball_near es c zero d short is = let same : extent d.position ≡ extent c.position = ap (λ e. extent e.position) is in omega arith
in_ball_near es c (suc r) d short there =
    elim there [
      | inl before ↦ omega (arith, in_ball_near es c r d short before)
      | inr new ↦ omega (arith, in_ball_near es c r new.0 short new.1, adjacent_near es new.0 d short new.2)
    ]

pub ball_near : (es : List Edge) (c : Cell) (r : ℕ) (cells : List Cell) → are_short 4 es ≡ true → IsCellListOf (IsInBall es c r) cells → AreNear (extent c.position + 4 * r) cells
ball_near es c r cells short list =
    All-from_contains (λ d. extent d.position ≤ extent c.position + 4 * r) cells (λ d there. in_ball_near es c r d short ((list.members d).0 there))

-- if the extent of the centre plus four times the radius is at most 2^20, the ball does not leave the range
pub ball_stays : (es : List Edge) (c : Cell) (r : ℕ) → are_short 4 es ≡ true → extent c.position + 4 * r ≤ 1048576 → CellsLeaveRange (IsInBall es c r) → ⊥
ball_stays es c r short small leaves =
    leaves.outside (in_range_from_test leaves.at.position (within_range leaves.at.position (omega (arith, in_ball_near es c r leaves.at short leaves.member))))
