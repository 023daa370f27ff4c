-- Steps of the loops over cells and over lines, and what a checked product or difference gives. Solving a line keeps the number of its cells.
use Rattle.std.proofs.Common.{◌≡◌, ℕ, ◌+◌, ◌<◌, List, [], ◌∷◌, ◌++◌, length, take, drop, get_or, Option, Some, None, Bool, true, false, cond, ◌&&◌, refl, sym, ap, subst, ◌∙◌, arith, drop-cons, add-one, append_assoc, ◌^◌}
use Rattle.std.proofs.lemmas.List.{length-map, length-set, take_more_set, drop-set-lt}
use Rattle.std.proofs.lemmas.{List.Edits.map_over_more, List.Folds.list_all_more, Grind.common_steps, Int.ints}
use Rattle.std.specs.{Prelude.map, List.slice_set, List.list_all, Int.RustNames.unsigned_abs}
use Rattle.dd_fraction.specs.Exact.{Exact, times, plus, minus, inverse}
use Rattle.dd_fraction.specs.Checked.{does_product_fit, checked_product, does_sum_fit, does_less_product_fit, checked_less_product}
use Rattle.dd_simplex.specs.table.Lines.{less, do_all_less_fit, Line, solved_line}
use Rattle.dd_simplex.specs.Programs.{zero_of, one_of, fraction_at}
use lib.IntN.{pos, neg_ℤ, ◌+ℤ◌, ◌*ℤ◌, *ℤ-one, +ℤ_idl, one}

pub product_gives : (a b q : Exact) → Some q ≡ checked_product a b → (does_product_fit a b ≡ true) × (q ≡ times a b)
product_gives a b q e = by (does_product_fit a b) refl
  where
    by : (t : Bool) → does_product_fit a b ≡ t → (does_product_fit a b ≡ true) × (q ≡ times a b)
    by true s = let k : Some q ≡ Some (times a b) = e ∙ ap (λ (u : Bool). cond u (Some (times a b)) None) s in (s, cc)
    by false s = let n : Option Exact = None in let k : Some q ≡ n = e ∙ ap (λ (u : Bool). cond u (Some (times a b)) None) s in absurd cc

-- the place that the loop reaches next still has its old value
unread : (f : Exact → Exact) (xs ys : List Exact) (i : ℕ) (x : Exact) → i < length xs → ys ≡ map f (take i xs) ++ drop i xs → get_or ys i x ≡ get_or xs i x
unread f xs ys i x p e = grind (arith, common_steps, length-map (take i xs) f)

pub divide_step : (k : Exact) (xs ys : List Exact) (i : ℕ) (x q : Exact) → i < length xs → x ≡ get_or ys i x → list_all (λ a. does_product_fit a k) (take i xs) ≡ true
    → ys ≡ map (λ a. times a k) (take i xs) ++ drop i xs → Some q ≡ checked_product (get_or ys i x) k
    → (list_all (λ a. does_product_fit a k) (take (i + 1) xs) ≡ true) × (slice_set ys i q ≡ map (λ a. times a k) (take (i + 1) xs) ++ drop (i + 1) xs)
divide_step k xs ys i x q p is all e s =
    let g = product_gives x k q (s ∙ ap (λ (t : Exact). checked_product t k) (sym is)) in
    let same : x ≡ get_or xs i x = is ∙ unread (λ (a : Exact). times a k) xs ys i x p e in
    let fit : does_product_fit (get_or xs i x) k ≡ true = subst (λ (t : Exact). does_product_fit t k ≡ true) same g.0 in (
      rw (list_all_more (λ (a : Exact). does_product_fit a k) xs i x p, all, fit) refl,
      ap (slice_set ys i) g.1 ∙ map_over_more (λ (a : Exact). times a k) xs ys i x p e is,
    )

pub less_product_gives : (a q b v : Exact) → Some v ≡ checked_less_product a q b → (does_less_product_fit a q b ≡ true) × (v ≡ plus a (minus (times q b)))
less_product_gives a q b v e = by (does_less_product_fit a q b) refl
  where
    by : (t : Bool) → does_less_product_fit a q b ≡ t → (does_less_product_fit a q b ≡ true) × (v ≡ plus a (minus (times q b)))
    by true s = let k : Some v ≡ Some (plus a (minus (times q b))) = e ∙ ap (λ (u : Bool). cond u (Some (plus a (minus (times q b)))) None) s in (s, cc)
    by false s = let n : Option Exact = None in let k : Some v ≡ n = e ∙ ap (λ (u : Bool). cond u (Some (plus a (minus (times q b)))) None) s in absurd cc

pub less_product_none : (a q b : Exact) → None ≡ checked_less_product a q b → does_less_product_fit a q b ≡ false
less_product_none a q b e = by (does_less_product_fit a q b) refl
  where
    by : (t : Bool) → does_less_product_fit a q b ≡ t → does_less_product_fit a q b ≡ false
    by true s = let n : Option Exact = None in let k : n ≡ Some (plus a (minus (times q b))) = e ∙ ap (λ (u : Bool). cond u (Some (plus a (minus (times q b)))) None) s in absurd cc
    by false s = s

fits_open : (q : Exact) (us bs : List Exact) (i : ℕ) (a b : Exact) → i < length us → i < length bs
    → do_all_less_fit q (drop i us) (drop i bs) ≡ ((does_product_fit q (get_or bs i b) && does_sum_fit (get_or us i a) (minus (times q (get_or bs i b)))) && do_all_less_fit q (drop (i + 1) us) (drop (i + 1) bs))
fits_open q us bs i a b p r = rw (add-one, drop-cons us i a p, drop-cons bs i b r) refl

less_open : (q : Exact) (us bs : List Exact) (i : ℕ) (a b : Exact) → i < length us → i < length bs
    → less q (drop i us) (drop i bs) ≡ plus (get_or us i a) (minus (times q (get_or bs i b))) ∷ less q (drop (i + 1) us) (drop (i + 1) bs)
less_open q us bs i a b p r = rw (add-one, drop-cons us i a p, drop-cons bs i b r) refl

pub subtract_stops : (q : Exact) (us bs : List Exact) (i : ℕ) (a b : Exact) → i < length us → i < length bs
    → None ≡ checked_less_product (get_or us i a) q (get_or bs i b) → false ≡ do_all_less_fit q (drop i us) (drop i bs)
subtract_stops q us bs i a b p r e =
    sym (fits_open q us bs i a b p r
    ∙ ap (λ (t : Bool). t && do_all_less_fit q (drop (i + 1) us) (drop (i + 1) bs)) (less_product_none (get_or us i a) q (get_or bs i b) e))

pub subtract_step : (q : Exact) (us bs : List Exact) (i : ℕ) (a b v : Exact) → i < length us → i < length bs
    → Some v ≡ checked_less_product (get_or us i a) q (get_or bs i b)
    → (do_all_less_fit q (drop i us) (drop i bs) ≡ do_all_less_fit q (drop (i + 1) (slice_set us i v)) (drop (i + 1) bs))
    × (take i us ++ less q (drop i us) (drop i bs) ≡ take (i + 1) (slice_set us i v) ++ less q (drop (i + 1) (slice_set us i v)) (drop (i + 1) bs))
subtract_step q us bs i a b v p r e =
    let x = less_product_gives (get_or us i a) q (get_or bs i b) v e in
    let y : plus (get_or us i a) (minus (times q (get_or bs i b))) ≡ v = sym x.1 in (
      rw (fits_open q us bs i a b p r, drop-set_past us i v)
          (ap (λ (t : Bool). t && do_all_less_fit q (drop (i + 1) us) (drop (i + 1) bs)) x.0),
      rw (less_open q us bs i a b p r, y, take_more_set us i v p, drop-set_past us i v) (sym (append_assoc (take i us) (v ∷ []) _)),
    )
  where
    drop-set_past : (us : List Exact) (i : ℕ) (v : Exact) → drop (i + 1) (slice_set us i v) ≡ drop (i + 1) us
    drop-set_past us i v = drop-set-lt (i + 1) us i v (omega arith)

unread_in : {X : Type 0} (f : X → X) (xs ys : List X) (i : ℕ) (x : X) → i < length xs → ys ≡ map f (take i xs) ++ drop i xs → get_or ys i x ≡ get_or xs i x
unread_in f xs ys i x p e = grind (arith, common_steps, length-map (take i xs) f)

-- one step of a loop that maps a list in place while a test holds
pub in_place_step : {X : Type 0} (f : X → X) (fit : X → Bool) (xs ys : List X) (i : ℕ) (x y : X) → i < length xs → x ≡ get_or ys i x → list_all fit (take i xs) ≡ true
    → ys ≡ map f (take i xs) ++ drop i xs → fit x ≡ true → y ≡ f x
    → (list_all fit (take (i + 1) xs) ≡ true) × (slice_set ys i y ≡ map f (take (i + 1) xs) ++ drop (i + 1) xs)
in_place_step f fit xs ys i x y p is all e t s =
    let same : x ≡ get_or xs i x = is ∙ unread_in f xs ys i x p e in
    let at : fit (get_or xs i x) ≡ true = ap fit (sym same) ∙ t in
    (rw (list_all_more fit xs i x p, all, at) refl, ap (slice_set ys i) s ∙ map_over_more f xs ys i x p e is)

-- the numbers of 0 - q fit if the numerator and the denominator of q fit, and the denominator is not 0
pub emptied_fits : (q : Exact) → 0 < q.den → unsigned_abs q.num < 2 ^ 127 → q.den < 2 ^ 127 → does_sum_fit zero_of (minus q) ≡ true
unfolding one
emptied_fits q o p r =
    let none : pos 0 *ℤ pos q.den ≡ pos 0 = omega (arith, ints) in
    let two : neg_ℤ q.num *ℤ pos 1 ≡ neg_ℤ q.num = *ℤ-one (neg_ℤ q.num) in
    let three : pos 0 +ℤ neg_ℤ q.num ≡ neg_ℤ q.num = +ℤ_idl (neg_ℤ q.num) in
    let size : unsigned_abs (neg_ℤ q.num) < 2 ^ 127 = omega (arith, ints, p) in
    rw (none, two, three) (grind (arith, ints, size, r))

pub solved_size : (v e : ℕ) (l : Line) (n : ℕ) → length l.cells ≡ n → length (solved_line v e l).cells ≡ n
solved_size v e l n h =
    let k = inverse (fraction_at l.cells e) in
    length-map (slice_set l.cells e one_of) (λ (a : Exact). times a k) ∙ (length-set l.cells e one_of ∙ h)
