-- Cell order: positions or cells that compare equal are equal. The ordered form of a list, `in_order`, has the same cells as the list.
use Rattle.std.proofs.Common.{◌≡◌, List, [], ◌∷◌, Bool, true, false, refl, ap, sym, ◌∙◌, rules, ◌↔◌, ◌⊎◌, inl, inr, subst, arith, get_or, ◌<◌, take, length, ℕ}
use Rattle.std.proofs.lemmas.Map.{Lookups.exact_signed, Lookups.exact_unsigned, Keys.Less-from_sorted}
use Rattle.std.proofs.lemmas.List.{get_or_default, get_or-take, length-take}
use Rattle.std.specs.{Prelude.◌&&◌, Cmp.IsTotalOrder, Cmp.Rules.comparing, List.fold, List.list_all, List.Contains, List.All}
use Rattle.std.specs.{BTreeSet.insert_key, Ordering.ordering_then, Ordering.match_ordering, Ordering.int_cmp, Ordering.nat_cmp}
use Rattle.std.specs.declared.cmp.Ordering.{Ordering}
use Rattle.std.specs.declared.cmp.Ordering.TheVariants.{Less, Equal, Greater}
use Rattle.std.specs.List.Sorted.{IsStrictlySortedBy}
use Rattle.dd_lattice.specs.{Place.Place, Place.place, declared.position.Cell.Cell, Cells.cell, Order.place_cmp, Order.cell_cmp}
use Rattle.dd_lattice.specs.InOrder.{in_order, HaveSameCells}
use Rattle.dd_values.specs.lemmas.Members.{Contains-first, Contains-later, Contains-cons_cases, Contains-nil}
use Rattle.dd_values.specs.lemmas.Booleans.{and_true, both_equal}

pub place_total : IsTotalOrder place_cmp
place_total = search (comparing, rules)

pub places_equal : (p q : Place) → place_cmp p q ≡ Equal → p ≡ q
places_equal p q h =
    let zyx = both_equal (ordering_then (int_cmp p.z q.z) (int_cmp p.y q.y)) (int_cmp p.x q.x) h in
    let zy = both_equal (int_cmp p.z q.z) (int_cmp p.y q.y) zyx.0 in
    let x = exact_signed p.x q.x zyx.1 in
    let y = exact_signed p.y q.y zy.1 in
    let z = exact_signed p.z q.z zy.0 in
    ap (λ a. place a p.y p.z) x ∙ (ap (λ b. place q.x b p.z) y ∙ ap (λ c. place q.x q.y c) z)

-- cells that compare equal are equal
pub cells_equal : (c d : Cell) → cell_cmp c d ≡ Equal → c ≡ d
cells_equal c d h =
    let both = both_equal (place_cmp c.position d.position) (nat_cmp c.node d.node) h in
    ap (λ p. cell p c.node) (places_equal c.position d.position both.0) ∙ ap (cell d.position) (exact_unsigned c.node d.node both.1)

and_twice : (a b : Bool) → (a && b) ≡ (a && (a && b))
and_twice true b = refl
and_twice false b = refl

and_swap : (a b c : Bool) → (a && (b && c)) ≡ (b && (a && c))
and_swap true b c = refl
and_swap false true c = refl
and_swap false false c = refl

and_move : (a b c : Bool) → (a && (b && c)) ≡ ((b && a) && c)
and_move true true c = refl
and_move true false c = refl
and_move false true c = refl
and_move false false c = refl

insert_step : (p : Cell → Bool) (k x : Cell) (xs rest : List Cell) → list_all p rest ≡ (p k && list_all p xs) → (r : Ordering) → (r ≡ Equal → k ≡ x) →
    list_all p (match_ordering r (k ∷ x ∷ xs) (x ∷ xs) (x ∷ rest)) ≡ (p k && (p x && list_all p xs))
insert_step p k x xs rest ih Less same = refl
insert_step p k x xs rest ih Equal same = and_twice (p x) (list_all p xs) ∙ ap (λ b. b && (p x && list_all p xs)) (ap p (sym (same refl)))
insert_step p k x xs rest ih Greater same = ap (λ b. p x && b) ih ∙ and_swap (p x) (p k) (list_all p xs)

list_all-insert : (p : Cell → Bool) (ks : List Cell) (k : Cell) → list_all p (insert_key cell_cmp ks k) ≡ (p k && list_all p ks)
list_all-insert p [] k = refl
list_all-insert p (x ∷ xs) k = insert_step p k x xs (insert_key cell_cmp xs k) (list_all-insert p xs k) (cell_cmp k x) (cells_equal k x)

all_from : (p : Cell → Bool) (cs ks : List Cell) → list_all p (fold (insert_key cell_cmp) ks cs) ≡ (list_all p cs && list_all p ks)
all_from p [] ks = refl
all_from p (c ∷ cs) ks =
    all_from p cs (insert_key cell_cmp ks c) ∙ (ap (λ b. list_all p cs && b) (list_all-insert p ks c) ∙ and_move (list_all p cs) (p c) (list_all p ks))

pub list_all-in_order : (p : Cell → Bool) (cs : List Cell) → list_all p (in_order cs) ≡ list_all p cs
list_all-in_order p cs = all_from p cs [] ∙ and_true (list_all p cs)

-- one step of the induction for insert_members
insert_members_step : (k x : Cell) (xs rest : List Cell) → ((q : Cell) → Contains rest q ↔ ((k ≡ q) ⊎ Contains xs q)) → (r : Ordering) → (r ≡ Equal → k ≡ x) →
    (q : Cell) → Contains (match_ordering r (k ∷ x ∷ xs) (x ∷ xs) (x ∷ rest)) q ↔ ((k ≡ q) ⊎ Contains (x ∷ xs) q)
insert_members_step k x xs rest ih Less same q = (
  Contains-cons_cases k (x ∷ xs) q,
  λ h. elim h [
    | inl is ↦ subst (Contains (k ∷ x ∷ xs)) is (Contains-first k (x ∷ xs))
    | inr old ↦ Contains-later k (x ∷ xs) q old
  ],
)
insert_members_step k x xs rest ih Equal same q = (
  λ c. inr c,
  λ h. elim h [ inl is ↦ subst (Contains (x ∷ xs)) (sym (same refl) ∙ is) (Contains-first x xs) | inr old ↦ old ],
)
insert_members_step k x xs rest ih Greater same q = (
  λ c. elim (Contains-cons_cases x rest q c) [
    | inl is ↦ inr (subst (Contains (x ∷ xs)) is (Contains-first x xs))
    | inr later ↦ elim ((ih q).0 later) [ inl is ↦ inl is | inr old ↦ inr (Contains-later x xs q old) ]
  ],
  λ h. elim h [
    | inl is ↦ Contains-later x rest q ((ih q).1 (inl is))
    | inr c ↦ elim (Contains-cons_cases x xs q c) [
      | inl is ↦ subst (Contains (x ∷ rest)) is (Contains-first x rest)
      | inr old ↦ Contains-later x rest q ((ih q).1 (inr old))
    ]
  ],
)

-- after an insertion the list has the new cell and the cells that it had before, and no others
insert_members : (ks : List Cell) (k q : Cell) → Contains (insert_key cell_cmp ks k) q ↔ ((k ≡ q) ⊎ Contains ks q)
insert_members [] k q = (Contains-cons_cases k [] q, λ h. elim h [ inl is ↦ subst (Contains (k ∷ [])) is (Contains-first k []) | inr none ↦ absurd (Contains-nil q none) ])
insert_members (x ∷ xs) k q = insert_members_step k x xs (insert_key cell_cmp xs k) (insert_members xs k) (cell_cmp k x) (cells_equal k x) q

fold_members : (cs ks : List Cell) (q : Cell) → Contains (fold (insert_key cell_cmp) ks cs) q ↔ (Contains cs q ⊎ Contains ks q)
fold_members [] ks q = (λ c. inr c, λ h. elim h [ inl none ↦ absurd (Contains-nil q none) | inr c ↦ c ])
fold_members (c ∷ cs) ks q =
    let rest = fold_members cs (insert_key cell_cmp ks c) q in
    let one = insert_members ks c q in (
      λ h. elim (rest.0 h) [
        | inl later ↦ inl (Contains-later c cs q later)
        | inr there ↦ elim (one.0 there) [ inl is ↦ inl (subst (Contains (c ∷ cs)) is (Contains-first c cs)) | inr old ↦ inr old ]
      ],
      λ h. elim h [
        | inl d ↦ elim (Contains-cons_cases c cs q d) [ inl is ↦ rest.1 (inr (one.1 (inl is))) | inr later ↦ rest.1 (inl later) ]
        | inr old ↦ rest.1 (inr (one.1 (inr old)))
      ],
    )

-- the ordered form of a list has the same cells as the list
pub in_order_members : (cs : List Cell) → HaveSameCells (in_order cs) cs
in_order_members cs q = (
  λ h. elim ((fold_members cs [] q).0 h) [ inl c ↦ c | inr none ↦ absurd (Contains-nil q none) ],
  λ c. (fold_members cs [] q).1 (inl c),
)

-- in an ascending list, the cell at index i is greater than all cells before it
pub turn_after : (cells : List Cell) (i : ℕ) (d : Cell) (before : List Cell) → IsStrictlySortedBy cell_cmp cells → i < length cells → d ≡ get_or cells i d →
    before ≡ take i cells → All (λ c. cell_cmp c d ≡ Less) before
turn_after cells i d before up h here is = rw is (λ k e below.
    let within : k < i = omega (arith, below, length-take i cells) in
    rw (get_or-take i cells k e within) (ap (cell_cmp (get_or cells k e)) (here ∙ get_or_default cells i d e h) ∙ Less-from_sorted cell_cmp cells k i e up within h))
