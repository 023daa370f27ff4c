-- If the views show the same symbols in a filling as in the one before, the filling shows no new pattern and requires no new row.
use Rattle.std.proofs.Common.{◌≡◌, ◌<◌, ◌+◌, ℕ, zero, suc, Bool, true, false, cond, List, [], ◌∷◌, ◌++◌, length, get_or, map, take, refl, sym, ◌∙◌, ap, subst, inl, inr, arith}
use Rattle.std.proofs.lemmas.Bool.{and_from, eq-eqb}
use Rattle.std.proofs.lemmas.List.{append-nil, map-append, map_more, take_more}
use Rattle.std.proofs.lemmas.List.{Concat.flat_map-append, Sums.fold-append, Elements.All-push}
use Rattle.std.specs.{Prelude.◌||◌, Prelude.◌≤◌, Prelude.All, Bool.nat_eq}
use Rattle.std.specs.Ordering.{nat_cmp, int_eq, match_ordering, ordering_reverse}
use Rattle.std.specs.{List.fold, List.flat_map, List.list_any, List.Sorted.IsStrictlySortedBy, BTreeSet.insert_key}
use Rattle.std.specs.Cmp.{IsTotalOrder, tied_itself, Rules.signed_items}
use Rattle.std.specs.Cmp.Lexicographic.{slice_cmp, pointwise, nat_list_cmp_total}
use Rattle.std.specs.declared.cmp.Ordering.{Ordering}
use Rattle.std.specs.declared.cmp.Ordering.TheVariants.{Less, Equal, Greater}
use Rattle.dd_pattern.specs.Weight.{total_weight}
use Rattle.dd_rows.specs.{declared.rows.Row.Row, declared.rows.Rows.Rows, declared.views.Views.Views, Patterns.in_lexicographic_order}
use Rattle.dd_rows.specs.Programs.{add_row, is_same_row, first_seen, coefficients, column_count, most_columns, most_rows}
use Rattle.dd_rows.specs.listing.Views.{symbols_at, patterns_seen, with_patterns}
use Rattle.dd_rows.specs.listing.Sparse.{required_row, required_rows, capped}
use Rattle.dd_rows.specs.listing.Shown.{patterns_shown, IsProgramShown, IsLargeShown}
use Rattle.dd_rows.specs.listing.Repeats.{ShowAlike, EndsAlike, ShowsSame, HasKnown}
use Rattle.dd_rows.proofs.SortedLists.{insert_present, insert_ascends, ascends_empty}
use Rattle.dd_values.specs.lemmas.Booleans.{or_true}

take_past : {X : Type 0} (xs : List X) (i : ℕ) → length xs ≤ i → take i xs ≡ xs
take_past [] zero past = refl
take_past [] (suc i) past = refl
take_past (x ∷ xs) zero past = absurd (omega (arith, past))
take_past (x ∷ xs) (suc i) past = ap (λ ys. x ∷ ys) (take_past xs i (omega (arith, past)))

-- ---- keys (items of an ascending list) that are inserted twice

module _ {K : Type 0} {R : K → K → Ordering} (o : IsTotalOrder R) where
  -- the list has a key equal to k
  abbrev Ties : List K → K → Type 0
  Ties ks k = (i : ℕ) × ((i < length ks) × (R (get_or ks i k) k ≡ Equal))

  first_or_later : (x : K) (xs rest : List K) (d : K) → (Ties xs d → Ties rest d) → (i : ℕ) → i < length (x ∷ xs) → R (get_or (x ∷ xs) i d) d ≡ Equal → Ties (x ∷ rest) d
  first_or_later x xs rest d into zero within tie = (0, (omega arith, tie))
  first_or_later x xs rest d into (suc i) within tie =
      let t = into (i, (omega (arith, within), tie)) in
      (suc t.0, (omega (arith, t.1.0), t.1.1))

  kept_step : (k x : K) (xs rest : List K) (d : K) → (Ties xs d → Ties rest d) → Ties (x ∷ xs) d → (r : Ordering) → Ties (match_ordering r (k ∷ x ∷ xs) (x ∷ xs) (x ∷ rest)) d
  kept_step k x xs rest d into there Less = (suc there.0, (omega (arith, there.1.0), there.1.1))
  kept_step k x xs rest d into there Equal = there
  kept_step k x xs rest d into there Greater = first_or_later x xs rest d into there.0 there.1.0 there.1.1

  kept_tie : (ks : List K) (k d : K) → Ties ks d → Ties (insert_key R ks k) d
  kept_tie [] k d there = absurd (omega (arith, there.1.0))
  kept_tie (x ∷ xs) k d there = kept_step k x xs (insert_key R xs k) d (kept_tie xs k d) there (R k x)

  new_step : (k x : K) (xs rest : List K) → Ties rest k → (r : Ordering) → R k x ≡ r → Ties (match_ordering r (k ∷ x ∷ xs) (x ∷ xs) (x ∷ rest)) k
  new_step k x xs rest there Less h = (0, (omega arith, tied_itself o k))
  new_step k x xs rest there Equal h = (0, (omega arith, o.antisymm x k ∙ ap ordering_reverse h))
  new_step k x xs rest there Greater h = (suc there.0, (omega (arith, there.1.0), there.1.1))

  new_tie : (ks : List K) (k : K) → Ties (insert_key R ks k) k
  new_tie [] k = (0, (omega arith, tied_itself o k))
  new_tie (x ∷ xs) k = new_step k x xs (insert_key R xs k) (new_tie xs k) (R k x) refl

  all_kept : (more ks : List K) (d : K) → Ties ks d → Ties (fold (insert_key R) ks more) d
  all_kept [] ks d there = there
  all_kept (m ∷ more) ks d there = all_kept more (insert_key R ks m) d (kept_tie ks m d there)

  all_new : (more ks : List K) (i : ℕ) (d : K) → i < length more → Ties (fold (insert_key R) ks more) (get_or more i d)
  all_new [] ks i d within = absurd (omega (arith, within))
  all_new (m ∷ more) ks zero d within = all_kept more (insert_key R ks m) m (new_tie ks m)
  all_new (m ∷ more) ks (suc i) d within = all_new more (insert_key R ks m) i d (omega (arith, within))

  all_ascend : (more ks : List K) → IsStrictlySortedBy R ks → IsStrictlySortedBy R (fold (insert_key R) ks more)
  all_ascend [] ks up = up
  all_ascend (m ∷ more) ks up = all_ascend more (insert_key R ks m) (insert_ascends o ks m up)

  nothing_new : (more ks : List K) → IsStrictlySortedBy R ks → ((i : ℕ) (d : K) → i < length more → Ties ks (get_or more i d)) → fold (insert_key R) ks more ≡ ks
  nothing_new [] ks up there = refl
  nothing_new (m ∷ more) ks up there =
      let t = there 0 m (omega arith) in
      ap (λ xs. fold (insert_key R) xs more) (insert_present o ks t.0 m up t.1.0 t.1.1) ∙ nothing_new more ks up (λ i d within. there (suc i) d (omega (arith, within)))

  put_twice : (more ks : List K) → IsStrictlySortedBy R ks → fold (insert_key R) (fold (insert_key R) ks more) more ≡ fold (insert_key R) ks more
  put_twice more ks up = nothing_new more (fold (insert_key R) ks more) (all_ascend more ks up) (all_new more ks)

-- ---- a row that is appended twice

same_row : (r : Row) → is_same_row r r ≡ true
same_row r = and_from (pointwise int_eq r.coefficients r.coefficients) (nat_eq r.bound r.bound) ((signed_items r.coefficients r.coefficients).1 refl) (eq-eqb r.bound r.bound refl)

any_last : {X : Type 0} (p : X → Bool) (xs : List X) (x : X) → p x ≡ true → list_any p (xs ++ x ∷ []) ≡ true
any_last p [] x h = ap (λ b. b || false) h
any_last p (y ∷ ys) x h = ap (λ b. p y || b) (any_last p ys x h) ∙ or_true (p y)

row_by : (rs : List Row) (r : Row) (b : Bool) → list_any (is_same_row r) rs ≡ b → add_row (cond b rs (rs ++ r ∷ [])) r ≡ cond b rs (rs ++ r ∷ [])
row_by rs r true h = ap (λ c. cond c rs (rs ++ r ∷ [])) h
row_by rs r false h = ap (λ c. cond c (rs ++ r ∷ []) ((rs ++ r ∷ []) ++ r ∷ [])) (any_last (is_same_row r) rs r (same_row r))

row_twice : (rs : List Row) (r : Row) → add_row (add_row rs r) r ≡ add_row rs r
row_twice rs r = row_by rs r (list_any (is_same_row r) rs) refl

-- ---- one more filling

module _ (v : Views) where
  patterns_push : (lists : List (List ℕ)) (ss : List ℕ) → patterns_shown v (lists ++ ss ∷ []) ≡ with_patterns (patterns_shown v lists) (patterns_seen v ss)
  patterns_push lists ss =
      ap in_lexicographic_order
      (flat_map-append (patterns_seen v) lists (ss ∷ []) ∙ ap (λ (xs : List (List ℕ)). flat_map (patterns_seen v) lists ++ xs) (append-nil (patterns_seen v ss)))
      ∙ fold-append (insert_key (slice_cmp nat_cmp)) [] (flat_map (patterns_seen v) lists) (patterns_seen v ss)

  rows_push : (ps : List (List ℕ)) (ws : List ℕ) (most : ℕ) (lists : List (List ℕ)) (ss : List ℕ) →
      first_seen (required_rows ps v ws most (lists ++ ss ∷ [])) ≡ add_row (first_seen (required_rows ps v ws most lists)) (required_row ps v ws ss)
  rows_push ps ws most lists ss =
      ap (λ (rs : List Row). first_seen (capped (length v.givers) (length ps) most ∷ rs)) (map-append (required_row ps v ws) lists (ss ∷ []))
      ∙ fold-append add_row [] (required_rows ps v ws most lists) (required_row ps v ws ss ∷ [])

  patterns_ascend : (lists : List (List ℕ)) → IsStrictlySortedBy (slice_cmp nat_cmp) (patterns_shown v lists)
  patterns_ascend lists = all_ascend nat_list_cmp_total (flat_map (patterns_seen v) lists) [] (ascends_empty (slice_cmp nat_cmp))

  seen_alike : (ss ts : List ℕ) → ShowAlike v ss ts → patterns_seen v ss ≡ patterns_seen v ts
  seen_alike ss ts h = ap (λ q. q ∷ map (symbols_at ss) v.givers) h.origin ∙ ap (λ (qs : List (List ℕ)). symbols_at ts v.origin ∷ qs) h.givers

  required_alike : (ps : List (List ℕ)) (ws ss ts : List ℕ) → ShowAlike v ss ts → required_row ps v ws ss ≡ required_row ps v ws ts
  required_alike ps ws ss ts h =
      let sides : coefficients ps (symbols_at ss v.origin) (map (symbols_at ss) v.givers) ≡ coefficients ps (symbols_at ts v.origin) (map (symbols_at ts) v.givers) =
      ap (λ out. coefficients ps out (map (symbols_at ss) v.givers)) h.origin ∙ ap (coefficients ps (symbols_at ts v.origin)) h.givers in
      let weight : total_weight ws (symbols_at ss v.centre) ≡ total_weight ws (symbols_at ts v.centre) = ap (total_weight ws) h.centre in
      λ i. record { coefficients = sides i; bound = weight i }

  pub same_none : ShowsSame v [] []
  same_none = record { patterns = refl; rows = λ ps ws most. refl }

  pub same_kept : (lists shown : List (List ℕ)) (ss : List ℕ) → ShowsSame v lists shown → ShowsSame v (lists ++ ss ∷ []) (shown ++ ss ∷ [])
  same_kept lists shown ss same = record {
    patterns = patterns_push shown ss ∙ (ap (λ ps. with_patterns ps (patterns_seen v ss)) same.patterns ∙ sym (patterns_push lists ss));
    rows = λ ps ws most. rows_push ps ws most shown ss ∙ (ap (λ rs. add_row rs (required_row ps v ws ss)) (same.rows ps ws most) ∙ sym (rows_push ps ws most lists ss));
  }

  -- if the views show the same symbols in ss as in the last filling, the patterns that ss shows are there already
  patterns_there : (front : List (List ℕ)) (last ss : List ℕ) → ShowAlike v last ss →
      with_patterns (patterns_shown v (front ++ last ∷ [])) (patterns_seen v ss) ≡ patterns_shown v (front ++ last ∷ [])
  patterns_there front last ss alike =
      ap (with_patterns (patterns_shown v (front ++ last ∷ []))) (sym (seen_alike last ss alike))
      ∙ (ap (λ ps. with_patterns ps (patterns_seen v last)) (patterns_push front last)
      ∙ (put_twice nat_list_cmp_total (patterns_seen v last) (patterns_shown v front) (patterns_ascend front) ∙ sym (patterns_push front last)))

  rows_there : (ps : List (List ℕ)) (ws : List ℕ) (most : ℕ) (front : List (List ℕ)) (last ss : List ℕ) → ShowAlike v last ss →
      add_row (first_seen (required_rows ps v ws most (front ++ last ∷ []))) (required_row ps v ws ss) ≡ first_seen (required_rows ps v ws most (front ++ last ∷ []))
  rows_there ps ws most front last ss alike =
      ap (add_row (first_seen (required_rows ps v ws most (front ++ last ∷ [])))) (sym (required_alike ps ws last ss alike))
      ∙ (ap (λ rs. add_row rs (required_row ps v ws last)) (rows_push ps ws most front last)
      ∙ (row_twice (first_seen (required_rows ps v ws most front)) (required_row ps v ws last) ∙ sym (rows_push ps ws most front last)))

  pub same_skipped : (lists shown : List (List ℕ)) (ss : List ℕ) → ShowsSame v lists shown → EndsAlike v shown ss → ShowsSame v (lists ++ ss ∷ []) shown
  same_skipped lists shown ss same ends = record {
    patterns =
        sym (ap (λ ls. with_patterns (patterns_shown v ls) (patterns_seen v ss)) ends.is ∙ (patterns_there ends.front ends.last ss ends.alike ∙ ap (patterns_shown v) (sym ends.is)))
        ∙ (ap (λ ps. with_patterns ps (patterns_seen v ss)) same.patterns ∙ sym (patterns_push lists ss));
    rows = λ ps ws most.
        sym (ap (λ ls. add_row (first_seen (required_rows ps v ws most ls)) (required_row ps v ws ss)) ends.is
        ∙ (rows_there ps ws most ends.front ends.last ss ends.alike ∙ ap (λ ls. first_seen (required_rows ps v ws most ls)) (sym ends.is)))
        ∙ (ap (λ rs. add_row rs (required_row ps v ws ss)) (same.rows ps ws most) ∙ sym (rows_push ps ws most lists ss));
  }

  -- ---- the program

  pub program_same : (ws : List ℕ) (most : ℕ) (lists shown : List (List ℕ)) (p : Rows) → ShowsSame v lists shown → IsProgramShown v ws most shown p → IsProgramShown v ws most lists p
  program_same ws most lists shown p same is = record {
    patterns_are = is.patterns_are ∙ same.patterns;
    rows_are = is.rows_are ∙ (same.rows (patterns_shown v shown) ws most ∙ ap (λ ps. first_seen (required_rows ps v ws most lists)) same.patterns);
    few_columns = is.few_columns;
    few_rows = is.few_rows;
  }

  pub large_same : (ws : List ℕ) (most : ℕ) (lists shown : List (List ℕ)) → ShowsSame v lists shown → IsLargeShown v ws most shown → IsLargeShown v ws most lists
  large_same ws most lists shown same (inl wide) = inl (subst (λ ps. most_columns < column_count (length v.givers) (length ps)) same.patterns wide)
  large_same ws most lists shown same (inr many) =
      inr (subst (λ (rs : List Row). most_rows < length rs) (same.rows (patterns_shown v shown) ws most ∙ ap (λ ps. first_seen (required_rows ps v ws most lists)) same.patterns) many)

-- ---- the loops

-- functions that agree on the first items of a list, and on one more
pub mapped_alike : {X Y : Type 0} (f g : X → Y) (xs : List X) (i : ℕ) (d : X) → i < length xs → map f (take i xs) ≡ map g (take i xs) → f (get_or xs i d) ≡ g (get_or xs i d) →
    map f (take (i + 1) xs) ≡ map g (take (i + 1) xs)
mapped_alike {X} {Y} f g xs i d below before here =
    map_more f xs i d below
    ∙ (ap (λ (ys : List Y). ys ++ f (get_or xs i d) ∷ []) before ∙ (ap (λ y. map g (take i xs) ++ y ∷ []) here ∙ sym (map_more g xs i d below)))

pub mapped_whole : {X Y : Type 0} (f g : X → Y) (xs : List X) (i : ℕ) → length xs ≤ i → map f (take i xs) ≡ map g (take i xs) → map f xs ≡ map g xs
mapped_whole f g xs i past same = ap (map f) (sym (take_past xs i past)) ∙ (same ∙ ap (map g) (take_past xs i past))

pub none_known : (lists : List (List ℕ)) → HasKnown lists []
none_known lists n all = λ k d within. absurd (omega (arith, within))

known_more : (lists shown : List (List ℕ)) (i : ℕ) (ss : List ℕ) → i < length lists → ss ≡ get_or lists i ss → HasKnown lists shown → HasKnown lists (shown ++ ss ∷ [])
known_more lists shown i ss below at has n all =
    let P : List ℕ → Type 0 = λ ts. All (λ s. s < n) ts in
    All-push P shown ss (has n all) (subst P (sym at) (all i ss below))

pub keep : (v : Views) (lists : List (List ℕ)) (i : ℕ) (ss : List ℕ) (shown new : List (List ℕ)) → i < length lists → ss ≡ get_or lists i ss →
    ShowsSame v (take i lists) shown × HasKnown lists shown → new ≡ shown ++ ss ∷ [] → ShowsSame v (take (i + 1) lists) new × HasKnown lists new
keep v lists i ss shown new below at before is =
    let longer : take i lists ++ ss ∷ [] ≡ take (i + 1) lists = ap (λ (ts : List ℕ). take i lists ++ ts ∷ []) at ∙ sym (take_more lists i ss below) in (
      subst (λ (ls : List (List ℕ)). ShowsSame v ls new) longer (subst (ShowsSame v (take i lists ++ ss ∷ [])) (sym is) (same_kept v (take i lists) shown ss before.0)),
      subst (HasKnown lists) (sym is) (known_more lists shown i ss below at before.1),
    )

pub skip : (v : Views) (lists : List (List ℕ)) (i : ℕ) (ss : List ℕ) (shown new : List (List ℕ)) → i < length lists → ss ≡ get_or lists i ss →
    ShowsSame v (take i lists) shown × HasKnown lists shown → EndsAlike v shown ss → new ≡ shown → ShowsSame v (take (i + 1) lists) new × HasKnown lists new
skip v lists i ss shown new below at before ends is =
    let longer : take i lists ++ ss ∷ [] ≡ take (i + 1) lists = ap (λ (ts : List ℕ). take i lists ++ ts ∷ []) at ∙ sym (take_more lists i ss below) in (
      subst (λ (ls : List (List ℕ)). ShowsSame v ls new) longer (subst (ShowsSame v (take i lists ++ ss ∷ [])) (sym is) (same_skipped v (take i lists) shown ss before.0 ends)),
      subst (HasKnown lists) (sym is) before.1,
    )

pub whole_same : (v : Views) (lists : List (List ℕ)) (i : ℕ) (shown : List (List ℕ)) → length lists ≤ i → ShowsSame v (take i lists) shown → ShowsSame v lists shown
whole_same v lists i shown past same = subst (λ (ls : List (List ℕ)). ShowsSame v ls shown) (take_past lists i past) same
