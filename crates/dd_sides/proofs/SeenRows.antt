-- Each row of a list is still there when repeats are left out.
use Rattle.std.proofs.Common.{◌≡◌, Bool, true, false, cond, List, [], ◌∷◌, ◌++◌, refl, sym, ap, subst, ◌∙◌, inl, inr, ◌⊎◌}
use Rattle.std.proofs.lemmas.Bool.{and_parts, eqb-true, false≢true, cases_Bool}
use Rattle.std.proofs.lemmas.List.Elements.{Contains-append_left, Contains-push}
use Rattle.std.specs.{Prelude.◌||◌, Bool.nat_eq, List.fold, List.list_any, List.Contains, Ordering.int_eq, Cmp.Lexicographic.pointwise}
use Rattle.std.specs.Cmp.Rules.{signed_items}
use Rattle.dd_values.specs.lemmas.Members.{Contains-nil, Contains-cons_cases, Contains-first, Contains-later}
use Rattle.dd_rows.specs.{declared.rows.Row.Row, Programs.is_same_row, Programs.add_row, Programs.first_seen}

same_row : (a b : Row) → is_same_row a b ≡ true → a ≡ b
same_row a b h =
    let parts = and_parts (pointwise int_eq a.coefficients b.coefficients) (nat_eq a.bound b.bound) h in
    let sides = (signed_items a.coefficients b.coefficients).0 parts.0 in
    let bounds = eqb-true a.bound b.bound parts.1 in
    λ i. record { coefficients = sides i; bound = bounds i }

found : (r : Row) (rows : List Row) → list_any (is_same_row r) rows ≡ true → Contains rows r
found r [] h = absurd (false≢true h)
found r (s ∷ rows) h = elim (cases_Bool (is_same_row r s)) [
  | inl here ↦ subst (Contains (s ∷ rows)) (sym (same_row r s here)) (Contains-first s rows)
  | inr there ↦ Contains-later s rows r (found r rows (ap (λ b. b || list_any (is_same_row r) rows) (sym there) ∙ h))
]

kept : (b : Bool) (rows : List Row) (s r : Row) → Contains rows r → Contains (cond b rows (rows ++ s ∷ [])) r
kept true rows s r c = c
kept false rows s r c = Contains-append_left rows (s ∷ []) r c

put : (b : Bool) (rows : List Row) (r : Row) → (b ≡ true → Contains rows r) → Contains (cond b rows (rows ++ r ∷ [])) r
put true rows r there = there refl
put false rows r there = Contains-push rows r

seen_from : (rows seen : List Row) (r : Row) → Contains seen r ⊎ Contains rows r → Contains (fold add_row seen rows) r
seen_from [] seen r (inl before) = before
seen_from [] seen r (inr none) = absurd (Contains-nil r none)
seen_from (s ∷ rows) seen r (inl before) = seen_from rows (add_row seen s) r (inl (kept (list_any (is_same_row s) seen) seen s r before))
seen_from (s ∷ rows) seen r (inr later) = elim (Contains-cons_cases s rows r later) [
  | inl here ↦
      let now : Contains (add_row seen s) s = put (list_any (is_same_row s) seen) seen s (found s seen) in
      seen_from rows (add_row seen s) r (inl (subst (Contains (add_row seen s)) here now))
  | inr there ↦ seen_from rows (add_row seen s) r (inr there)
]

pub first_seen_has : (rows : List Row) (r : Row) → Contains rows r → Contains (first_seen rows) r
first_seen_has rows r c = seen_from rows [] r (inr c)
