-- A lightest walk, followed back from its end until it comes to some state for the second time.
use Rattle.std.proofs.Common.{◌≡◌, ℕ, zero, suc, ◌+◌, ◌-◌, ◌*◌, ◌<◌, ◌≤◌, Bool, true, false, cond, List, [], ◌∷◌, ◌++◌, length, reverse, take, drop, get_or, set, replicate, Option, Some, None, arith, refl, sym, ap, ◌∙◌, subst, inl, inr, take-append-drop, add-one, eqb, ◌≢◌}
use Rattle.std.proofs.lemmas.Bool.{cases_Bool, cases_lt, cases_eq, eqb-true, eq-eqb, and_parts}
use Rattle.std.proofs.lemmas.List.{reverse-append, length-reverse, length-append, length-set, length-take, length-drop, take-append-le, take_all, get_or_past, get_or-replicate, length-replicate}
use Rattle.std.proofs.lemmas.List.Elements.{All-contains}
use Rattle.std.specs.{Prelude.◌⊎◌, List.Contains, List.All, List.find}
use Rattle.dd_meancycle.specs.{declared.edges.Edge.Edge, table.Levels.at, table.Levels.row, table.Levels.least, table.Levels.IsEdgeOf}
use Rattle.dd_meancycle.specs.table.Walks.{IsWalk, AreAmong, edges_weight}
use Rattle.dd_meancycle.specs.table.Rises.{is_back, arrives, marked, IsCycleOnWalk}
use Rattle.dd_meancycle.proofs.LevelLaws.{Arrives, least_from, row_length, at_set_same, at_set_other}

walk_start : (es : List Edge) (u m v : ℕ) → IsWalk u es v → IsWalk m es v → u ≡ m
walk_start [] u m v a b = a ∙ sym b
walk_start (e ∷ es) u m v a b = sym a.0 ∙ b.0

walk_front : (xs ys : List Edge) (u m v : ℕ) → IsWalk u (xs ++ ys) v → IsWalk m ys v → IsWalk u xs m
walk_front [] ys u m v a b = walk_start ys u m v a b
walk_front (e ∷ xs) ys u m v a b = (a.0, walk_front xs ys e.to m v a.1 b)

among_parts : (edges xs ys : List Edge) → AreAmong edges (xs ++ ys) → AreAmong edges xs × AreAmong edges ys
among_parts edges [] ys h = (tt, h)
among_parts edges (e ∷ xs) ys h = let r = among_parts edges xs ys h.1 in ((h.0, r.0), r.1)

weight_append : (xs ys : List Edge) → edges_weight (xs ++ ys) ≡ edges_weight xs + edges_weight ys
weight_append [] ys = omega arith
weight_append (e ∷ xs) ys = omega (arith, weight_append xs ys)

pub reverse_push : (es : List Edge) (e : Edge) → reverse (es ++ e ∷ []) ≡ e ∷ reverse es
reverse_push es e = reverse-append es (e ∷ [])

marked_none : (n : ℕ) → marked (replicate n None) ≡ 0
marked_none zero = refl
marked_none (suc n) = marked_none n

marked_set : (seen : List (Option ℕ)) (i r : ℕ) → i < length seen → at seen i ≡ None → marked (set seen i (Some r)) ≡ suc (marked seen)
marked_set [] i r lt none = absurd (omega arith)
marked_set (None ∷ seen) zero r lt none = refl
marked_set (Some x ∷ seen) zero r lt none = absurd (cc)
marked_set (None ∷ seen) (suc i) r lt none = marked_set seen i r (omega arith) none
marked_set (Some x ∷ seen) (suc i) r lt none = ap suc (marked_set seen i r (omega arith) none)

marked_most : (seen : List (Option ℕ)) → marked seen ≤ length seen
marked_most [] = omega arith
marked_most (None ∷ seen) = omega (arith, marked_most seen)
marked_most (Some x ∷ seen) = omega (arith, marked_most seen)

marked_below : (seen : List (Option ℕ)) (i : ℕ) → i < length seen → at seen i ≡ None → marked seen < length seen
marked_below [] i lt none = absurd (omega arith)
marked_below (None ∷ seen) i lt none = omega (arith, marked_most seen)
marked_below (Some x ∷ seen) zero lt none = absurd (cc)
marked_below (Some x ∷ seen) (suc i) lt none = omega (arith, marked_below seen i (omega arith) none)

-- A trail: the last `step` edges of a walk of n edges to v, followed back from v. The walk has the weight `end`. `path` holds these edges, the last
-- one first. They lead back to the state `here`, to which the trail comes for the first time. A lightest walk of n - step edges to `here` has the
-- weight `weight`. For each state that the trail passed before, `seen` holds how many edges had been followed when the trail came to it.
pub record Trail (edges : List Edge) (n v end step here weight : ℕ) (path : List Edge) (seen : List (Option ℕ)) : Type 0 where
  pub walk : IsWalk here (reverse path) v
  pub among : AreAmong edges (reverse path)
  pub len : length path ≡ step
  pub width : length seen ≡ n
  pub here_is : least edges n (n - step) here ≡ Some weight
  pub sum : weight + edges_weight (reverse path) ≡ end
  pub in_range : here < n
  pub fresh : at seen here ≡ None
  pub count : marked seen ≡ step
  pub marks : (y r : ℕ) → at seen y ≡ Some r → (r ≤ length path) × IsWalk y (reverse (take r path)) v

pub trail_start : (edges : List Edge) (n v end : ℕ) (seen : List (Option ℕ)) → v < n → seen ≡ replicate n None → least edges n n v ≡ Some end → Trail edges n v end 0 v end [] seen
trail_start edges n v end seen lt s h = record {
  walk = refl;
  among = tt;
  len = refl;
  width = rw s (length-replicate n None);
  here_is = (let e : n - 0 ≡ n = omega arith in rw e h);
  sum = omega arith;
  in_range = lt;
  fresh = rw s (get_or-replicate n v None None lt);
  count = rw s (marked_none n);
  marks = λ y r e. absurd (let f = none_at seen y s in cc);
}
  where
    none_at : (seen : List (Option ℕ)) (y : ℕ) → seen ≡ replicate n None → at seen y ≡ None
    none_at seen y s = rw s (elim (cases_lt y n) [ inl lt ↦ get_or-replicate n y None None lt | inr le ↦ get_or_past (replicate n None) y None (rw (length-replicate) le) ])

pub trail_end : (edges : List Edge) (n v end step here weight : ℕ) (path : List Edge) (seen : List (Option ℕ)) → n ≤ step → Trail edges n v end step here weight path seen → ⊥
trail_end edges n v end step here weight path seen le t = omega (arith, marked_below seen here (omega (arith, t.width, t.in_range)) t.fresh, t.count, t.width)

-- the edge e leads to the state `here`, and a lightest walk of the row `before` to the source of e, followed by e, has the weight `weight`
pub record IsBack (edges : List Edge) (before : List (Option ℕ)) (here weight : ℕ) (e : Edge) : Type 0 where
  pub is_in : Contains edges e
  pub to : e.to ≡ here
  pub start : ℕ
  pub start_is : at before e.from ≡ Some start
  pub sum : start + e.weight ≡ weight

arrives_start : (o : Option ℕ) (w t : ℕ) → arrives o w t ≡ true → (a : ℕ) × (o ≡ Some a) × (a + w ≡ t)
arrives_start None w t h = absurd (cc)
arrives_start (Some a) w t h = (a, refl, eqb-true (a + w) t h)

found_in : {X : Type 0} (p : X → Bool) (xs : List X) (x : X) → Some x ≡ find p xs → Contains xs x × (p x ≡ true)
found_in p [] x h = absurd (cc)
found_in p (y ∷ xs) x h = elim (cases_Bool (p y)) [
  | inl t ↦ let e : x ≡ y = (let f = rw t at h in cc) in ((zero, omega arith, sym e), ap p e ∙ t)
  | inr f ↦ let r = found_in p xs x (rw f at h) in ((suc r.0.0, omega (arith, r.0.1), r.0.2), r.1)
]

none_in : {X : Type 0} (p : X → Bool) (xs : List X) (k : ℕ) (x : X) → k < length xs → get_or xs k x ≡ x → None ≡ find p xs → p x ≡ false
none_in p [] k x lt e h = absurd (omega arith)
none_in p (y ∷ xs) zero x lt e h = elim (cases_Bool (p y)) [
  | inl t ↦ absurd (let f = rw t at h in cc)
  | inr f ↦ ap p (sym e) ∙ f
]
none_in p (y ∷ xs) (suc k) x lt e h = elim (cases_Bool (p y)) [
  | inl t ↦ absurd (let f = rw t at h in cc)
  | inr f ↦ none_in p xs k x (omega arith) e (rw f at h)
]

pub back_found : (edges : List Edge) (before : List (Option ℕ)) (here weight : ℕ) (e : Edge) → Some e ≡ find (is_back before here weight) edges → IsBack edges before here weight e
back_found edges before here weight e h =
    let r = found_in (is_back before here weight) edges e h in
    let p = and_parts (eqb e.to here) (arrives (at before e.from) e.weight weight) r.1 in
    let a = arrives_start (at before e.from) e.weight weight p.1 in
    record { is_in = r.0; to = eqb-true e.to here p.0; start = a.0; start_is = a.1; sum = a.2 }

pub back_some : (edges : List Edge) (n k here weight : ℕ) → All (IsEdgeOf n) edges → least edges n (suc k) here ≡ Some weight → None ≡ find (is_back (row edges n k) here weight) edges → ⊥
back_some edges n k here weight all h none =
    let r = least_from edges n k here weight all h in
    let f = none_in (is_back (row edges n k) here weight) edges r.is_in.0 r.edge r.is_in.1 r.is_in.2 none in
    let g : is_back (row edges n k) here weight r.edge ≡ true = rw (eq-eqb r.edge.to here r.to, r.is_before, eq-eqb (r.before + r.edge.weight) weight (sym r.sum)) refl in
    absurd (cc)

pub marks_at : (edges : List Edge) (n v end step here weight : ℕ) (path : List Edge) (seen marks : List (Option ℕ)) →
    Trail edges n v end step here weight path seen → marks ≡ set seen here (Some (length path)) →
    (y r : ℕ) → at marks y ≡ Some r → (r ≤ length path) × IsWalk y (reverse (take r path)) v
marks_at edges n v end step here weight path seen marks t m y r e = elim (cases_eq y here) [
  | inl same ↦
      let f : Some (length path) ≡ Some r = sym (at_set_same seen here y (Some (length path)) (omega (arith, t.width, t.in_range)) same) ∙ (ap (λ (x : List (Option ℕ)). at x y) (sym m) ∙ e) in
      let g : r ≡ length path = cc in
      let h : take r path ≡ path = take_all r path (omega arith) in
      (omega arith, rw (h, same) t.walk)
  | inr other ↦ t.marks y r (sym (at_set_other seen here y (Some (length path)) other) ∙ (ap (λ (x : List (Option ℕ)). at x y) (sym m) ∙ e))
]

-- the trail with one more edge, after the state `here` is marked as seen
pub trail_push : (edges : List Edge) (n v end step here weight : ℕ) (path : List Edge) (seen marks : List (Option ℕ)) (e : Edge) →
    All (IsEdgeOf n) edges → Trail edges n v end step here weight path seen → step < n → marks ≡ set seen here (Some (length path)) →
    IsBack edges (row edges n (n - 1 - step)) here weight e → at marks e.from ≡ None →
    Trail edges n v end (step + 1) e.from (weight - e.weight) (path ++ e ∷ []) marks
trail_push edges n v end step here weight path seen marks e all t lt m b fresh =
    let k : n - (step + 1) ≡ n - 1 - step = omega arith in
    let w : b.start ≡ weight - e.weight = omega (arith, b.sum) in
    record {
      walk = rw reverse_push (refl, subst (λ (u : ℕ). IsWalk u (reverse path) v) (sym b.to) t.walk);
      among = rw reverse_push (b.is_in, t.among);
      len = rw length-append (omega (arith, t.len));
      width = rw (m, length-set) t.width;
      here_is = rw (k, ← w) b.start_is;
      sum = rw reverse_push (omega (arith, b.sum, t.sum));
      in_range = (All-contains (IsEdgeOf n) edges e all b.is_in).0;
      fresh = fresh;
      count = rw (m, marked_set seen here (length path) (omega (arith, t.width, t.in_range)) t.fresh) (omega (arith, t.count));
      marks = λ y r a. let q = marks_at edges n v end step here weight path seen marks t m y r a in
          let le : r ≤ length path = q.0 in
          let long : length (path ++ e ∷ []) ≡ length path + 1 = length-append path (e ∷ []) in
          (omega arith, rw take-append-le q.1);
    }

pub trail_closes : (edges : List Edge) (n v end step here weight : ℕ) (path : List Edge) (seen marks : List (Option ℕ)) (e : Edge) (r : ℕ) →
    All (IsEdgeOf n) edges → Trail edges n v end step here weight path seen → step < n → marks ≡ set seen here (Some (length path)) →
    IsBack edges (row edges n (n - 1 - step)) here weight e → at marks e.from ≡ Some r →
    IsCycleOnWalk edges n v end (reverse (drop r (path ++ e ∷ [])))
trail_closes edges n v end step here weight path seen marks e r all t lt m b again =
    let q = marks_at edges n v end step here weight path seen marks t m e.from r again in
    let le : r ≤ length path = q.0 in
    let long : length (path ++ e ∷ []) ≡ length path + 1 = length-append path (e ∷ []) in
    let front : take r (path ++ e ∷ []) ≡ take r path = rw take-append-le refl in
    let parts : reverse (path ++ e ∷ []) ≡ reverse (drop r (path ++ e ∷ [])) ++ reverse (take r (path ++ e ∷ [])) =
    ap (λ (x : List Edge). reverse x) (sym (take-append-drop r (path ++ e ∷ []))) ∙ reverse-append (take r (path ++ e ∷ [])) (drop r (path ++ e ∷ [])) in
    let walk : IsWalk e.from (reverse (path ++ e ∷ [])) v = rw reverse_push (refl, subst (λ (u : ℕ). IsWalk u (reverse path) v) (sym b.to) t.walk) in
    let among : AreAmong edges (reverse (path ++ e ∷ [])) = rw reverse_push (b.is_in, t.among) in
    let rest : IsWalk e.from (reverse (take r (path ++ e ∷ []))) v = rw front q.1 in
    let both = among_parts edges (reverse (drop r (path ++ e ∷ []))) (reverse (take r (path ++ e ∷ []))) (subst (AreAmong edges) parts among) in
    let sum : edges_weight (reverse (path ++ e ∷ [])) ≡ e.weight + edges_weight (reverse path) = rw reverse_push refl in
    let sums : edges_weight (reverse (path ++ e ∷ [])) ≡ edges_weight (reverse (drop r (path ++ e ∷ []))) + edges_weight (reverse (take r (path ++ e ∷ []))) =
    ap edges_weight parts ∙ weight_append (reverse (drop r (path ++ e ∷ []))) (reverse (take r (path ++ e ∷ []))) in
    let len_cycle : length (reverse (drop r (path ++ e ∷ []))) ≡ length path + 1 - r = length-reverse (drop r (path ++ e ∷ [])) ∙ (length-drop r (path ++ e ∷ []) ∙ omega arith) in
    let len_rest : length (reverse (take r (path ++ e ∷ []))) ≡ r = length-reverse (take r (path ++ e ∷ [])) ∙ (length-take r (path ++ e ∷ []) ∙ omega arith) in
    record {
      at_state = e.from;
      before = n - 1 - step;
      weight = b.start;
      rest = reverse (take r (path ++ e ∷ []));
      among = both.0;
      closed = walk_front (reverse (drop r (path ++ e ∷ []))) (reverse (take r (path ++ e ∷ []))) e.from e.from v (subst (λ (x : List Edge). IsWalk e.from x v) parts walk) rest;
      rest_among = both.1;
      rest_walk = rest;
      before_is = b.start_is;
      turns = omega arith;
      lengths = omega (arith, t.len);
      weights = omega (arith, b.sum, t.sum);
    }
