-- Why the rounds of the search find the ball. The neighbours of a cell are found, at the latest, in the round after the one that finds the cell
-- itself. So only the cells of the frontier can have neighbours that haven't been found yet.
use Rattle.std.proofs.Common.{◌≡◌, ◌+◌, ◌<◌, ◌≤◌, ◌↔◌, ℕ, zero, suc, List, [], ◌∷◌, ◌++◌, Bool, true, false, ◌&&◌, refl, ap, sym, ◌∙◌, subst, inl, inr, ◌⊎◌, arith, take, get_or, length, Contains, true≢false, add-one, zero-add, suc-add, ◌-◌, eq-eqb}
use Rattle.std.proofs.lemmas.List.{take_more}
use Rattle.std.proofs.lemmas.List.Elements.{All-contains, All-cons, All-nil, Contains-append_left, Contains-append_right, Contains-append_cases}
use Rattle.std.proofs.lemmas.{List.Folds.list_all-append, Bool.and_left, Bool.and_right, Bool.false_from_ne_true}
use Rattle.std.specs.Prelude.{Result, IfOk, Some, None, cond, ◌==◌, if◌then◌else◌}
use Rattle.std.specs.{List.All, List.flat_map, List.list_all, List.Sorted.IsStrictlySortedBy, BTreeSet.insert_key}
use Rattle.dd_lattice.specs.{Place.IsInRange, Place.is_in_range, Order.cell_cmp, InOrder.in_order, declared.position.Cell.Cell}
use Rattle.dd_lattice.specs.lemmas.{InOrderLaws.cells_equal, RangeLaws.in_range_from_test, RangeLaws.test_from_in_range}
use Rattle.dd_lattice.specs.declared.fault.LatticeFault.{LatticeFault}
use Rattle.dd_lattice.specs.declared.fault.LatticeFault.TheVariants.{Range, Memory}
use Rattle.dd_values.specs.lemmas.Members.{All-from_contains, Contains-first, Contains-nil, Contains-cons_cases}
use Rattle.dd_values.specs.lemmas.{Lists.passes, Results.if_ok_both}
use Rattle.dd_topology.specs.{declared.edge.Edge.Edge, Topology.in_range}
use Rattle.dd_topology.specs.Balls.{CellSet, IsAdjacent, IsInBall, IsCellListOf, IsCellFaultOf, CellsLeaveRange, edge_ends, edge_starts, beside, neighbours, ball, are_in_range}
use Rattle.dd_topology.specs.{keeping.Growth.AddsCells, lemmas.ListLaws.in_flat_map, lemmas.ListLaws.into_flat_map}
use Rattle.dd_topology.specs.lemmas.OrderLaws.{kept-insert_key, has-insert_key, from-insert_key, is-in_order}
use Rattle.dd_topology.proofs.BallLaws.{from_neighbours, into_neighbours, in_ball, ball_holds}

-- The cells found are those of the ball of radius r around c. They are in range. The frontier has only cells that have been found. If a found cell
-- isn't in the frontier, all its neighbours have been found too.
pub record IsGrown (es : List Edge) (c : Cell) (r : ℕ) (found frontier : List Cell) : Type 0 where
  pub members : (d : Cell) → Contains found d ↔ IsInBall es c r d
  pub in_range : All (λ d. IsInRange d.position) found
  pub frontier_found : (d : Cell) → Contains frontier d → Contains found d
  pub closed : (b d : Cell) → Contains found b → IsAdjacent es b d → Contains frontier b ⊎ Contains found d

only_one : (c d : Cell) → Contains (c ∷ []) d → d ≡ c
only_one c d h = elim (Contains-cons_cases c [] d h) [ inl same ↦ sym same | inr none ↦ absurd (Contains-nil d none) ]

-- before the first round, only the centre has been found, and it is the frontier
pub grown_start : (es : List Edge) (c : Cell) → IsInRange c.position → IsGrown es c 0 (c ∷ []) (c ∷ [])
grown_start es c near = record {
  members = λ d. (only_one c d, λ h. subst (Contains (c ∷ [])) (sym h) (Contains-first c []));
  in_range = All-cons (λ d. IsInRange d.position) c [] near (All-nil (λ d. IsInRange d.position));
  frontier_found = λ d h. h;
  closed = λ b d h adjacent. inl h;
}

some_fails : {X : Type 0} (p : X → Bool) (xs : List X) → list_all p xs ≡ false → (x : X) × Contains xs x × (p x ≡ false)
some_fails p [] h = absurd (cc)
some_fails {X} p (x ∷ xs) h = by_head (p x) refl h (some_fails p xs)
  where
    by_head : (b : Bool) → p x ≡ b → (b && list_all p xs) ≡ false → (list_all p xs ≡ false → (y : X) × Contains xs y × (p y ≡ false)) → (y : X) × Contains (x ∷ xs) y × (p y ≡ false)
    by_head true e is rest = let other = rest is in (other.0, Contains-append_right (x ∷ []) xs other.0 other.1, other.2)
    by_head false e is rest = (x, Contains-first x xs, e)

-- one round leads from radius r to r + 1: the neighbours of the frontier, all in range, are added, and the fresh cells are the next frontier
pub grown_more : (es : List Edge) (c : Cell) (r : ℕ) (found frontier now fresh : List Cell) → IsGrown es c r found frontier → are_in_range (flat_map (neighbours es) frontier) ≡ true →
    AddsCells found (flat_map (neighbours es) frontier) now fresh → IsGrown es c (r + 1) now fresh
grown_more es c r found frontier now fresh grown near adds = rw add-one (record {
  members = λ d. (into d, from d);
  in_range = All-from_contains (λ d. IsInRange d.position) now (λ d there.
      elim ((adds.members d).0 there) [
        | inl before ↦ All-contains (λ e. IsInRange e.position) found d grown.in_range before
        | inr beside ↦ in_range_from_test d.position (passes (λ e. is_in_range e.position) (flat_map (neighbours es) frontier) d near beside)
      ]);
  frontier_found = adds.fresh_found;
  closed = λ b d there adjacent.
      elim (adds.rest_known b there) [
        | inl before ↦ inr (reached b d before adjacent)
        | inr new ↦ inl new
      ];
})
  where
    reached : (b d : Cell) → Contains found b → IsAdjacent es b d → Contains now d
    reached b d there adjacent =
        elim (grown.closed b d there adjacent) [
          | inl front ↦ (adds.members d).1 (inr (into_flat_map (neighbours es) frontier b d front (into_neighbours es b d adjacent)))
          | inr known ↦ (adds.members d).1 (inl known)
        ]

    into : (d : Cell) → Contains now d → IsInBall es c (suc r) d
    into d there =
        elim ((adds.members d).0 there) [
          | inl before ↦ inl ((grown.members d).0 before)
          | inr beside ↦ (let at = in_flat_map (neighbours es) frontier d beside in
              inr (at.0, (grown.members at.0).0 (grown.frontier_found at.0 at.1), from_neighbours es at.0 d at.2))
        ]

    from : (d : Cell) → IsInBall es c (suc r) d → Contains now d
    from d (inl near) = (adds.members d).1 (inl ((grown.members d).1 near))
    from d (inr far) = reached far.0 d ((grown.members far.0).1 far.1) far.2

-- a ball grows with its radius
wider : (es : List Edge) (c : Cell) (r k : ℕ) (d : Cell) → IsInBall es c r d → IsInBall es c (k + r) d
wider es c r zero d h = rw zero-add h
wider es c r (suc k) d h = rw suc-add (inl (wider es c r k d h))

wider_to : (es : List Edge) (c : Cell) (k r : ℕ) (d : Cell) → k ≤ r → IsInBall es c k d → IsInBall es c r d
wider_to es c k r d within h = let total : (r - k) + k ≡ r = omega arith in subst (λ n. IsInBall es c n d) total (wider es c k (r - k) d h)

centre : (es : List Edge) (c : Cell) (r : ℕ) → IsInBall es c r c
centre es c zero = refl
centre es c (suc r) = inl (centre es c r)

-- if the frontier is empty, each ball around c has only cells that have been found
stays : (es : List Edge) (c : Cell) (r : ℕ) (found : List Cell) → IsGrown es c r found [] → (k : ℕ) (d : Cell) → IsInBall es c k d → Contains found d
stays es c r found grown zero d h = subst (Contains found) (sym h) ((grown.members c).1 (centre es c r))
stays es c r found grown (suc k) d (inl near) = stays es c r found grown k d near
stays es c r found grown (suc k) d (inr far) =
    elim (grown.closed far.0 d (stays es c r found grown k far.0 far.1) far.2) [ inl none ↦ absurd (Contains-nil far.0 none) | inr known ↦ known ]

pub stopped : (es : List Edge) (c : Cell) (k r : ℕ) (found : List Cell) → k ≤ r → IsGrown es c k found [] → IsGrown es c r found []
stopped es c k r found within grown = record {
  members = λ d. (λ there. wider_to es c k r d within ((grown.members d).0 there), stays es c k found grown r d);
  in_range = grown.in_range;
  frontier_found = grown.frontier_found;
  closed = grown.closed;
}

-- for k below r: if a neighbour of the frontier after k rounds is out of range, so is some cell of the ball of radius r
pub left_range : (es : List Edge) (c : Cell) (k r : ℕ) (found frontier : List Cell) → k < r → IsGrown es c k found frontier → are_in_range (flat_map (neighbours es) frontier) ≡ false →
    CellsLeaveRange (IsInBall es c r)
left_range es c k r found frontier within grown far =
    let d = some_fails (λ e. is_in_range e.position) (flat_map (neighbours es) frontier) far in
    let b = in_flat_map (neighbours es) frontier d.0 d.1 in
    let next : IsInBall es c (suc k) d.0 = inr (b.0, (grown.members b.0).0 (grown.frontier_found b.0 b.1), from_neighbours es b.0 d.0 b.2) in
    record {
      at = d.0;
      member = wider_to es c (suc k) r d.0 (omega arith) next;
      outside = λ near. true≢false (sym (test_from_in_range d.0.position near) ∙ d.2);
    }

finished : (es : List Edge) (c : Cell) (r : ℕ) (found frontier cells : List Cell) → IsGrown es c r found frontier → cells ≡ found → IsStrictlySortedBy cell_cmp cells → IsCellListOf (IsInBall es c r) cells
finished es c r found frontier cells grown same ascending = record {
  ascending = ascending;
  in_range = subst (λ l. All (λ d. IsInRange d.position) l) (sym same) grown.in_range;
  members = λ d. subst (λ l. Contains l d ↔ IsInBall es c r d) (sym same) (grown.members d);
}

-- two lemmas: if the result is `Ok` with the list of the cells found, in cell order, this list has exactly the cells of the ball, and it is equal to
-- `in_order` of the list `ball`
module _ {V E : Type 0} (result : Result V E) (items : V → List Cell) (es : List Edge) (c : Cell) (r : ℕ) (found frontier : List Cell) where
  pub cells_at_last : IsGrown es c r found frontier → IfOk result (λ v. items v ≡ found) → IfOk result (λ v. IsStrictlySortedBy cell_cmp (items v)) → IfOk result (λ v. IsCellListOf (IsInBall es c r) (items v))
  cells_at_last grown same ascending = if_ok_both result _ _ _ (λ v. finished es c r found frontier (items v) grown) same ascending

  pub list_at_last : IsGrown es c r found frontier → IfOk result (λ v. items v ≡ found) → IfOk result (λ v. IsStrictlySortedBy cell_cmp (items v)) → IfOk result (λ v. items v ≡ in_order (ball es c r))
  list_at_last grown same ascending =
      if_ok_both result _ _ _ (λ v same' ascending'.
      let list = finished es c r found frontier (items v) grown same' ascending' in
      is-in_order (items v) (ball es c r) ascending' (λ d there. ball_holds es c r d ((list.members d).0 there)) (λ d there. (list.members d).1 (in_ball es c r d there)))
      same ascending

pub fault_from : (S : CellSet) (fault : LatticeFault) → (fault ≡ Range → CellsLeaveRange S) → IsCellFaultOf S fault
fault_from S Range h = h refl
fault_from S Memory h = tt

-- `AddsCells` still holds after the next cell of `cells` is inserted into `now` and appended to `fresh`
pub adds_new : (before cells now fresh : List Cell) (i : ℕ) (x : Cell) → i < length cells → x ≡ get_or cells i x → AddsCells before (take i cells) now fresh →
    AddsCells before (take (i + 1) cells) (insert_key cell_cmp now x) (fresh ++ x ∷ [])
adds_new before cells now fresh i x below is adds = rw (take_more cells i x below, ← is) (record {
  members = λ d. (into d, from d);
  fresh_found = λ d there.
      elim (Contains-append_cases fresh (x ∷ []) d there) [
        | inl old ↦ kept-insert_key cell_cmp cells_equal now x d (adds.fresh_found d old)
        | inr new ↦ subst (Contains (insert_key cell_cmp now x)) (sym (only_one x d new)) (has-insert_key cell_cmp cells_equal now x)
      ];
  rest_known = λ d there.
      elim (from-insert_key cell_cmp cells_equal now x d there) [
        | inl old ↦ elim (adds.rest_known d old) [ inl known ↦ inl known | inr new ↦ inr (Contains-append_left fresh (x ∷ []) d new) ]
        | inr same ↦ inr (Contains-append_right fresh (x ∷ []) d (subst (Contains (x ∷ [])) same (Contains-first x [])))
      ];
})
  where
    into : (d : Cell) → Contains (insert_key cell_cmp now x) d → Contains before d ⊎ Contains (take i cells ++ x ∷ []) d
    into d there =
        elim (from-insert_key cell_cmp cells_equal now x d there) [
          | inl old ↦ elim ((adds.members d).0 old) [ inl known ↦ inl known | inr new ↦ inr (Contains-append_left (take i cells) (x ∷ []) d new) ]
          | inr same ↦ inr (Contains-append_right (take i cells) (x ∷ []) d (subst (Contains (x ∷ [])) same (Contains-first x [])))
        ]

    from : (d : Cell) → Contains before d ⊎ Contains (take i cells ++ x ∷ []) d → Contains (insert_key cell_cmp now x) d
    from d (inl known) = kept-insert_key cell_cmp cells_equal now x d ((adds.members d).1 (inl known))
    from d (inr new) =
        elim (Contains-append_cases (take i cells) (x ∷ []) d new) [
          | inl old ↦ kept-insert_key cell_cmp cells_equal now x d ((adds.members d).1 (inr old))
          | inr last ↦ subst (Contains (insert_key cell_cmp now x)) (sym (only_one x d last)) (has-insert_key cell_cmp cells_equal now x)
        ]

-- `AddsCells` still holds, with the same `now` and `fresh`, if the next cell of `cells` is in `now` already
pub adds_known : (before cells now fresh : List Cell) (i : ℕ) (x : Cell) → i < length cells → x ≡ get_or cells i x → AddsCells before (take i cells) now fresh →
    Contains now x → AddsCells before (take (i + 1) cells) now fresh
adds_known before cells now fresh i x below is adds there = rw (take_more cells i x below, ← is) (record {
  members = λ d. (
    λ found. elim ((adds.members d).0 found) [ inl known ↦ inl known | inr new ↦ inr (Contains-append_left (take i cells) (x ∷ []) d new) ],
    from d,
  );
  fresh_found = adds.fresh_found;
  rest_known = adds.rest_known;
})
  where
    from : (d : Cell) → Contains before d ⊎ Contains (take i cells ++ x ∷ []) d → Contains now d
    from d (inl known) = (adds.members d).1 (inl known)
    from d (inr new) =
        elim (Contains-append_cases (take i cells) (x ∷ []) d new) [
          | inl old ↦ (adds.members d).1 (inr old)
          | inr last ↦ subst (Contains now) (sym (only_one x d last)) there
        ]

-- two lemmas: if `edge_ends` or `edge_starts` has a cell out of range, so has `beside`, the list of the cells that the edge joins to c
pub end_out_of_range : (c : Cell) (e : Edge) → are_in_range (edge_ends c e) ≡ false → are_in_range (beside c e) ≡ false
end_out_of_range c e far = list_all-append (λ d. is_in_range d.position) (edge_ends c e) (edge_starts c e) ∙ and_left _ _ far

pub start_out_of_range : (c : Cell) (e : Edge) → are_in_range (edge_starts c e) ≡ false → are_in_range (beside c e) ≡ false
start_out_of_range c e far = list_all-append (λ d. is_in_range d.position) (edge_ends c e) (edge_starts c e) ∙ and_right _ _ far

-- if a part of a list has a cell out of range, so does the whole list
pub part_out_of_range : {X : Type 0} (f : X → List Cell) (xs : List X) (i : ℕ) (x : X) → i < length xs → x ≡ get_or xs i x → are_in_range (f x) ≡ false → are_in_range (flat_map f xs) ≡ false
part_out_of_range f xs i x below is far =
    let d = some_fails (λ c. is_in_range c.position) (f x) far in
    let there : Contains (flat_map f xs) d.0 = into_flat_map f xs x d.0 (i, below, sym is) d.1 in
    false_from_ne_true (are_in_range (flat_map f xs)) (λ near. true≢false (sym (passes (λ c. is_in_range c.position) (flat_map f xs) d.0 near there) ∙ d.2))

-- n, the node at one end of an edge, is equal to m, the node of a cell. `other` is the cell at the edge's other end. It is in range and equal to
-- `given`.
module _ (n m : ℕ) (other given : Cell) (same : n ≡ m) (near : Some given ≡ in_range other) where
  given_is : (given ≡ other) × (is_in_range other.position ≡ true)
  given_is = by_test (is_in_range other.position) near
    where
      by_test : (b : Bool) → Some given ≡ (if b then Some other else None) → (given ≡ other) × (b ≡ true)
      by_test true h = (cc, refl)
      by_test false h = absurd (cc)

  pub other_end : given ∷ [] ≡ cond (n == m) (other ∷ []) []
  other_end = ap (λ d. d ∷ []) given_is.0 ∙ sym (ap (λ b. cond b (other ∷ []) []) (eq-eqb n m same))

  pub other_in_range : are_in_range (cond (n == m) (other ∷ []) []) ≡ true
  other_in_range = ap (λ b. are_in_range (cond b (other ∷ []) [])) (eq-eqb n m same) ∙ ap (λ b. b && true) given_is.1
