-- Adjacency and balls: the list `neighbours` has exactly the adjacent cells, and the list `ball` has exactly the cells of the ball. The test
-- `is_adjacent` decides whether two cells are adjacent.
use Rattle.std.proofs.Common.{◌≡◌, ℕ, zero, suc, List, [], ◌∷◌, Bool, true, false, cond, refl, ap, sym, ◌∙◌, subst, inl, inr, Contains, eq-eqb}
use Rattle.std.proofs.lemmas.Bool.{eqb-true, and_parts, and_from, Decides.Decides-int_eq}
use Rattle.std.proofs.lemmas.List.Elements.{Contains-append_left, Contains-append_right, Contains-append_cases}
use Rattle.std.specs.{Prelude.◌==◌, Prelude.◌||◌, Bool.Decides, List.flat_map}
use Rattle.dd_lattice.specs.{Place.Place, Cells.cell, declared.position.Cell.Cell}
use Rattle.dd_values.specs.lemmas.Members.{Contains-first, Contains-nil, Contains-cons_cases}
use Rattle.dd_values.specs.lemmas.Booleans.{or_left, or_right, or_cases}
use Rattle.dd_topology.specs.{declared.edge.Edge.Edge, Topology.end_of, Topology.start_of, Topology.Leads}
use Rattle.dd_topology.specs.Balls.{IsAdjacent, IsInBall, same_place, leads, is_adjacent, edge_ends, edge_starts, beside, neighbours, ball}
use Rattle.dd_topology.specs.lemmas.ListLaws.{some_passes, passes_any, in_flat_map, into_flat_map}
use Rattle.dd_topology.specs.lemmas.ExtentLaws.{back_and_forth}
use Rattle.dd_topology.proofs.CoordinateLaws.{place_is, forth_and_back}

same_place-exact : (p q : Place) → Decides (same_place p q) (p ≡ q)
same_place-exact p q = (
  λ h. let zs = and_parts _ _ h in
      let xy = and_parts _ _ zs.0 in
      place_is p.x p.y p.z q ((Decides-int_eq _ _).0 xy.0) ((Decides-int_eq _ _).0 xy.1) ((Decides-int_eq _ _).0 zs.1),
  λ h. and_from _ _ (and_from _ _ ((Decides-int_eq _ _).1 (ap (λ r. r.x) h)) ((Decides-int_eq _ _).1 (ap (λ r. r.y) h))) ((Decides-int_eq _ _).1 (ap (λ r. r.z) h)),
)

leads-exact : (e : Edge) (a b : Cell) → Decides (leads e a b) (Leads e a b)
leads-exact e a b = (
  λ h. let places = and_parts _ _ h in
      let nodes = and_parts _ _ places.0 in (
        sym (eqb-true e.from a.node nodes.0),
        sym (ap (λ p. cell p e.to) ((same_place-exact _ _).0 places.1) ∙ ap (cell b.position) (eqb-true e.to b.node nodes.1)),
      ),
  λ h. and_from _ _ (and_from _ _ (eq-eqb e.from a.node (sym h.0)) (eq-eqb e.to b.node (sym (ap (λ c. c.node) h.1)))) ((same_place-exact _ _).1 (sym (ap (λ c. c.position) h.1))),
)

-- the test `is_adjacent` decides the relation `IsAdjacent`
pub is_adjacent-exact : (es : List Edge) (a b : Cell) → Decides (is_adjacent es a b) (IsAdjacent es a b)
is_adjacent-exact es a b = (
  λ h. let at = some_passes (λ e. leads e a b || leads e b a) es h in
      let e = at.0 in (
        e,
        at.1,
        elim (or_cases (leads e a b) (leads e b a) at.2) [ inl to ↦ inl ((leads-exact e a b).0 to) | inr from ↦ inr ((leads-exact e b a).0 from) ],
      ),
  λ h. let e = h.0 in
      passes_any (λ f. leads f a b || leads f b a) es e h.1
      (elim h.2 [ inl to ↦ or_left _ _ ((leads-exact e a b).1 to) | inr from ↦ or_right _ _ ((leads-exact e b a).1 from) ]),
)

in_cond : (b : Bool) (x y : Cell) → Contains (cond b (x ∷ []) []) y → (b ≡ true) × (y ≡ x)
in_cond true x y h = (refl, elim (Contains-cons_cases x [] y h) [ inl same ↦ sym same | inr none ↦ absurd (Contains-nil y none) ])
in_cond false x y h = absurd (Contains-nil y h)

into_cond : (b : Bool) (x y : Cell) → b ≡ true → y ≡ x → Contains (cond b (x ∷ []) []) y
into_cond true x y h e = subst (λ z. Contains (x ∷ []) z) (sym e) (Contains-first x [])
into_cond false x y h e = absurd (cc)

from_ends : (c : Cell) (e : Edge) (d : Cell) → Contains (edge_ends c e) d → Leads e c d
from_ends c e d h = let both = in_cond (e.from == c.node) (end_of c e) d h in (sym (eqb-true e.from c.node both.0), both.1)

from_starts : (c : Cell) (e : Edge) (d : Cell) → Contains (edge_starts c e) d → Leads e d c
from_starts c e d h =
    let both = in_cond (e.to == c.node) (start_of c e) d h in (
      ap (λ x. x.node) both.1,
      sym (ap (λ x. end_of x e) both.1 ∙ (ap (λ p. cell p e.to) (back_and_forth c.position e.offset) ∙ ap (cell c.position) (eqb-true e.to c.node both.0))),
    )

into_ends : (c : Cell) (e : Edge) (d : Cell) → Leads e c d → Contains (edge_ends c e) d
into_ends c e d h = into_cond (e.from == c.node) (end_of c e) d (eq-eqb e.from c.node (sym h.0)) h.1

into_starts : (c : Cell) (e : Edge) (d : Cell) → Leads e d c → Contains (edge_starts c e) d
into_starts c e d h =
    into_cond (e.to == c.node) (start_of c e) d (eq-eqb e.to c.node (sym (ap (λ x. x.node) h.1)))
    (sym (ap (λ x. start_of x e) h.1 ∙ (ap (λ p. cell p e.from) (forth_and_back d.position e.offset) ∙ ap (cell d.position) (sym h.0))))

-- two lemmas: the list of the neighbours of c has exactly the cells adjacent to c
pub from_neighbours : (es : List Edge) (c d : Cell) → Contains (neighbours es c) d → IsAdjacent es c d
from_neighbours es c d h =
    let at = in_flat_map (beside c) es d h in
    let e = at.0 in
    elim (Contains-append_cases (edge_ends c e) (edge_starts c e) d at.2) [
      | inl first ↦ (e, at.1, inl (from_ends c e d first))
      | inr rest ↦ (e, at.1, inr (from_starts c e d rest))
    ]

pub into_neighbours : (es : List Edge) (c d : Cell) → IsAdjacent es c d → Contains (neighbours es c) d
into_neighbours es c d h =
    into_flat_map (beside c) es h.0 d h.1
    (elim h.2 [
      | inl from ↦ Contains-append_left (edge_ends c h.0) (edge_starts c h.0) d (into_ends c h.0 d from)
      | inr to ↦ Contains-append_right (edge_ends c h.0) (edge_starts c h.0) d (into_starts c h.0 d to)
    ])

-- two lemmas: the list of a ball has exactly the cells of the ball
pub in_ball : (es : List Edge) (c : Cell) (r : ℕ) (d : Cell) → Contains (ball es c r) d → IsInBall es c r d
in_ball es c zero d h = elim (Contains-cons_cases c [] d h) [ inl same ↦ sym same | inr none ↦ absurd (Contains-nil d none) ]
in_ball es c (suc r) d h =
    elim (Contains-append_cases (ball es c r) (flat_map (neighbours es) (ball es c r)) d h) [
      | inl near ↦ inl (in_ball es c r d near)
      | inr far ↦ (let at = in_flat_map (neighbours es) (ball es c r) d far in inr (at.0, in_ball es c r at.0 at.1, from_neighbours es at.0 d at.2))
    ]

pub ball_holds : (es : List Edge) (c : Cell) (r : ℕ) (d : Cell) → IsInBall es c r d → Contains (ball es c r) d
ball_holds es c zero d h = subst (λ x. Contains (c ∷ []) x) (sym h) (Contains-first c [])
ball_holds es c (suc r) d (inl near) = Contains-append_left (ball es c r) (flat_map (neighbours es) (ball es c r)) d (ball_holds es c r d near)
ball_holds es c (suc r) d (inr far) =
    Contains-append_right (ball es c r) (flat_map (neighbours es) (ball es c r)) d
    (into_flat_map (neighbours es) (ball es c r) far.0 d (ball_holds es c r far.0 far.1) (into_neighbours es far.0 d far.2))
