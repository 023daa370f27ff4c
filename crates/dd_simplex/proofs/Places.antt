-- What each place holds after a loop over cells, what each line is after a pivot, and whether the numbers of a place fit.
use Rattle.std.proofs.Common.{◌≡◌, ◌≢◌, ℕ, zero, suc, ◌+◌, ◌<◌, List, [], ◌∷◌, length, get_or, take, drop, Bool, true, ◌&&◌, refl, sym, ap, ◌∙◌, arith}
use Rattle.std.proofs.lemmas.List.{length-map, length-set, get_or-set_same, get_or-set_other}
use Rattle.std.specs.{Prelude.map, List.slice_set, List.list_all}
use Rattle.dd_fraction.specs.Exact.{Exact, times, inverse}
use Rattle.dd_simplex.specs.{Programs.fraction_at, Programs.zero_of, Programs.one_of, Dictionaries.less_product, Runs.does_less_fit}
use Rattle.dd_simplex.specs.table.Lines.{Line, line_at, less, do_all_less_fit, solved_line, changed_line, changed_lines}
use Rattle.dd_simplex.proofs.{Firsts.and_left, Firsts.and_right, LineSteps.rows_pivoted}
use Rattle.dd_values.specs.lemmas.{Booleans.and_both, Lists.list_at}

pub map_at : {A B : Type 0} (f : A → B) (xs : List A) (i : ℕ) (a : A) (b : B) → i < length xs → get_or (map f xs) i b ≡ f (get_or xs i a)
map_at f [] i a b p = absurd (omega (arith, p))
map_at f (x ∷ xs) zero a b p = refl
map_at f (x ∷ xs) (suc i) a b p = map_at f xs i a b (omega (arith, p))

pub length_less : (q : Exact) (us bs : List Exact) → length us ≡ length bs → length (less q us bs) ≡ length us
length_less q [] bs h = refl
length_less q (a ∷ us) [] h = absurd (omega (arith, h))
length_less q (a ∷ us) (b ∷ bs) h = ap suc (length_less q us bs (omega (arith, h)))

pub less_at : (q : Exact) (us bs : List Exact) (j : ℕ) → length us ≡ length bs → j < length us → fraction_at (less q us bs) j ≡ less_product (fraction_at us j) q (fraction_at bs j)
less_at q [] bs j h p = absurd (omega (arith, p))
less_at q (a ∷ us) [] j h p = absurd (omega (arith, h))
less_at q (a ∷ us) (b ∷ bs) zero h p = refl
less_at q (a ∷ us) (b ∷ bs) (suc j) h p = less_at q us bs j (omega (arith, h)) (omega (arith, p))

pub less_fits_at : (q : Exact) (us bs : List Exact) (j : ℕ) → length us ≡ length bs → do_all_less_fit q us bs ≡ true → j < length us
    → does_less_fit (fraction_at us j) q (fraction_at bs j) ≡ true
less_fits_at q [] bs j h f p = absurd (omega (arith, p))
less_fits_at q (a ∷ us) [] j h f p = absurd (omega (arith, h))
less_fits_at q (a ∷ us) (b ∷ bs) zero h f p = and_left (does_less_fit a q b) (do_all_less_fit q us bs) f
less_fits_at q (a ∷ us) (b ∷ bs) (suc j) h f p = less_fits_at q us bs j (omega (arith, h)) (and_right (does_less_fit a q b) (do_all_less_fit q us bs) f) (omega (arith, p))

pub less_fits : (q : Exact) (us bs : List Exact) → length us ≡ length bs → ((j : ℕ) → j < length us → does_less_fit (fraction_at us j) q (fraction_at bs j) ≡ true)
    → do_all_less_fit q us bs ≡ true
less_fits q [] bs h f = refl
less_fits q (a ∷ us) [] h f = absurd (omega (arith, h))
less_fits q (a ∷ us) (b ∷ bs) h f =
    and_both (does_less_fit a q b) (do_all_less_fit q us bs) (f 0 (omega arith)) (less_fits q us bs (omega (arith, h)) (λ j p. f (suc j) (omega (arith, p))))

pub list_true : {A : Type 0} (f : A → Bool) (xs : List A) (a : A) → ((i : ℕ) → i < length xs → f (get_or xs i a) ≡ true) → list_all f xs ≡ true
list_true f [] a h = refl
list_true f (x ∷ xs) a h = and_both (f x) (list_all f xs) (h 0 (omega arith)) (list_true f xs a (λ i p. h (suc i) (omega (arith, p))))

-- ---- a test of every place but one
beside_go : {A : Type 0} (f : A → Bool) (xs : List A) (r i : ℕ) (a : A) → (list_all f (take r xs) && list_all f (drop (suc r) xs)) ≡ true
    → i < length xs → i ≢ r → f (get_or xs i a) ≡ true
beside_go f [] r i a h p k = absurd (omega (arith, p))
beside_go f (x ∷ xs) zero zero a h p k = absurd (k refl)
beside_go f (x ∷ xs) zero (suc i) a h p k = list_at f xs i a h (omega (arith, p))
beside_go f (x ∷ xs) (suc r) zero a h p k = and_left (f x) (list_all f (take r xs)) (and_left (f x && list_all f (take r xs)) (list_all f (drop (suc r) xs)) h)
beside_go f (x ∷ xs) (suc r) (suc i) a h p k =
    beside_go f xs r i a
    (and_both (list_all f (take r xs)) (list_all f (drop (suc r) xs))
    (and_right (f x) (list_all f (take r xs)) (and_left (f x && list_all f (take r xs)) (list_all f (drop (suc r) xs)) h))
    (and_right (f x && list_all f (take r xs)) (list_all f (drop (suc r) xs)) h))
    (omega (arith, p)) (λ (s : i ≡ r). k (ap suc s))

true_go : {A : Type 0} (f : A → Bool) (xs : List A) (r : ℕ) (a : A) → ((i : ℕ) → i < length xs → i ≢ r → f (get_or xs i a) ≡ true)
    → (list_all f (take r xs) && list_all f (drop (suc r) xs)) ≡ true
true_go f [] r a h = none r
  where
    none : (r : ℕ) → (list_all f (take r []) && list_all f (drop (suc r) [])) ≡ true
    none zero = refl
    none (suc r) = refl
true_go f (x ∷ xs) zero a h = list_true f xs a (λ i p. h (suc i) (omega (arith, p)) (λ (s : suc i ≡ zero). omega (arith, s)))
true_go f (x ∷ xs) (suc r) a h =
    let rest = true_go f xs r a (λ i p k. h (suc i) (omega (arith, p)) (λ (s : suc i ≡ suc r). k (omega (arith, s)))) in
    and_both (f x && list_all f (take r xs)) (list_all f (drop (suc r) xs))
    (and_both (f x) (list_all f (take r xs)) (h 0 (omega arith) (λ (s : 0 ≡ suc r). omega (arith, s))) (and_left (list_all f (take r xs)) (list_all f (drop (suc r) xs)) rest))
    (and_right (list_all f (take r xs)) (list_all f (drop (suc r) xs)) rest)

one_more : (r : ℕ) → suc r ≡ r + 1
one_more r = omega arith

pub beside_at : {A : Type 0} (f : A → Bool) (xs : List A) (r i : ℕ) (a : A) → (list_all f (take r xs) && list_all f (drop (r + 1) xs)) ≡ true
    → i < length xs → i ≢ r → f (get_or xs i a) ≡ true
beside_at f xs r i a h = beside_go f xs r i a (ap (λ (n : ℕ). list_all f (take r xs) && list_all f (drop n xs)) (one_more r) ∙ h)

pub beside_true : {A : Type 0} (f : A → Bool) (xs : List A) (r : ℕ) (a : A) → ((i : ℕ) → i < length xs → i ≢ r → f (get_or xs i a) ≡ true)
    → (list_all f (take r xs) && list_all f (drop (r + 1) xs)) ≡ true
beside_true f xs r a h = ap (λ (n : ℕ). list_all f (take r xs) && list_all f (drop n xs)) (sym (one_more r)) ∙ true_go f xs r a h

-- ---- the lines of a pivot
pub lines_size : (lines : List Line) (e r v : ℕ) → r < length lines → length (changed_lines e r v lines) ≡ length lines
lines_size lines e r v h =
    let f = changed_line e (solved_line v e (line_at lines r)) in
    let p = solved_line v e (line_at lines r) in
    ap length (rows_pivoted f lines r p h) ∙ (length-set (map f lines) r p ∙ length-map lines f)

pub line_other : (lines : List Line) (e r v i : ℕ) → r < length lines → i < length lines → i ≢ r
    → line_at (changed_lines e r v lines) i ≡ changed_line e (solved_line v e (line_at lines r)) (line_at lines i)
line_other lines e r v i h q k =
    let f = changed_line e (solved_line v e (line_at lines r)) in
    let p = solved_line v e (line_at lines r) in
    ap (λ (ls : List Line). line_at ls i) (rows_pivoted f lines r p h) ∙ (get_or-set_other (map f lines) r i p _ k ∙ map_at f lines i _ _ q)

-- ---- the cells of a pivot
pub solved_at : (v e j : ℕ) (l : Line) → j < length l.cells → fraction_at (solved_line v e l).cells j ≡ times (fraction_at (slice_set l.cells e one_of) j) (inverse (fraction_at l.cells e))
solved_at v e j l p = map_at (λ (a : Exact). times a (inverse (fraction_at l.cells e))) (slice_set l.cells e one_of) j zero_of zero_of (simp length-set p)

pub set_here : (us : List Exact) (e : ℕ) (a : Exact) → e < length us → fraction_at (slice_set us e a) e ≡ a
set_here us e a p = get_or-set_same us e a zero_of p

pub set_else : (us : List Exact) (e j : ℕ) (a : Exact) → j ≢ e → fraction_at (slice_set us e a) j ≡ fraction_at us j
set_else us e j a k = get_or-set_other us e j a zero_of k
