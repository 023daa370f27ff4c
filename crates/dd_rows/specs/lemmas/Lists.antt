-- Lists that are joined, mapped, filtered or cut off, and items of lists.
use Rattle.std.proofs.Common.{◌≡◌, ◌+◌, ℕ, zero, suc, Bool, true, false, cond, List, [], ◌∷◌, ◌++◌, length, map, take, min, max, refl, sym, ◌∙◌, ap, inl, inr, arith}
use Rattle.std.proofs.lemmas.Bool.{and_from, false≢true, cases_lt, lt-ltb, le-ltb}
use Rattle.std.proofs.lemmas.List.Elements.{filter-append, All-take, All-from_recursion, recursion_from_All}
use Rattle.std.proofs.lemmas.List.Concat.{flat_map-append}
use Rattle.std.specs.Prelude.{◌&&◌, ◌||◌, not, filter, nat_lt, is_some, slice_get}
use Rattle.std.specs.List.{All, flat_map, list_all, prefix_len, Sorted.IsStrictlySortedBy}
use Rattle.std.specs.declared.cmp.Ordering.{Ordering, TheVariants.Less}
use Rattle.dd_expansion.specs.Limits.{greatest}
use Rattle.dd_values.specs.lemmas.{Booleans.and_four, Lists.all_first, Lists.all_rest}

pub flat_map_flat_map : {X Y Z : Type 0} (g : Y → List Z) (f : X → List Y) (xs : List X) → flat_map g (flat_map f xs) ≡ flat_map (λ x. flat_map g (f x)) xs
flat_map_flat_map g f [] = refl
flat_map_flat_map g f (x ∷ xs) = flat_map-append g (f x) (flat_map f xs) ∙ ap (λ ys. flat_map g (f x) ++ ys) (flat_map_flat_map g f xs)

pub filter_flat_map : {X Y : Type 0} (p : Y → Bool) (f : X → List Y) (xs : List X) → filter p (flat_map f xs) ≡ flat_map (λ x. filter p (f x)) xs
filter_flat_map p f [] = refl
filter_flat_map p f (x ∷ xs) = filter-append p (f x) (flat_map f xs) ∙ ap (λ ys. filter p (f x) ++ ys) (filter_flat_map p f xs)

-- two functions, or two tests, that agree on the items of a list
pub flat_map_same : {X Y : Type 0} (P : X → Type 0) (f g : X → List Y) → ((x : X) → P x → f x ≡ g x) → (xs : List X) → All P xs → flat_map f xs ≡ flat_map g xs
flat_map_same P f g same [] all = refl
flat_map_same P f g same (x ∷ xs) all =
    ap (λ ys. ys ++ flat_map f xs) (same x (all_first P x xs all)) ∙ ap (λ ys. g x ++ ys) (flat_map_same P f g same xs (all_rest P x xs all))

pub filter_agree : {X : Type 0} (P : X → Type 0) (p q : X → Bool) → ((x : X) → P x → p x ≡ q x) → (xs : List X) → All P xs → filter p xs ≡ filter q xs
filter_agree P p q same [] all = refl
filter_agree P p q same (x ∷ xs) all =
    ap (λ b. cond b (x ∷ filter p xs) (filter p xs)) (same x (all_first P x xs all))
    ∙ ap (λ ys. cond (q x) (x ∷ ys) ys) (filter_agree P p q same xs (all_rest P x xs all))

agree_where : {X : Type 0} (p q : X → Bool) (x : X) (rest : List X) (b : Bool) → (b ≡ true → p x ≡ q x) → list_all p rest ≡ list_all q rest →
    list_all p (cond b (x ∷ rest) rest) ≡ list_all q (cond b (x ∷ rest) rest)
agree_where p q x rest true here more = ap (λ b. b && list_all p rest) (here refl) ∙ ap (λ b. q x && b) more
agree_where p q x rest false here more = more

-- two tests that agree on the items that pass a third test
pub list_all_where : {X : Type 0} (p q t : X → Bool) → ((x : X) → t x ≡ true → p x ≡ q x) → (xs : List X) → list_all p (filter t xs) ≡ list_all q (filter t xs)
list_all_where p q t same [] = refl
list_all_where p q t same (x ∷ xs) = agree_where p q x (filter t xs) (t x) (same x) (list_all_where p q t same xs)

step_kept : {X Y : Type 0} (f g : X → List Y) (x : X) (b : Bool) (xs : List X) (rest : List Y) → f x ≡ cond b (g x) [] → rest ≡ flat_map g xs →
    f x ++ rest ≡ flat_map g (cond b (x ∷ xs) xs)
step_kept f g x true xs rest is more = ap (λ ys. ys ++ rest) is ∙ ap (λ ys. g x ++ ys) more
step_kept f g x false xs rest is more = ap (λ ys. ys ++ rest) is ∙ more

-- items that give the empty list may be left out
pub flat_map_filter : {X Y : Type 0} (P : X → Type 0) (q : X → Bool) (f g : X → List Y) → ((x : X) → P x → f x ≡ cond (q x) (g x) []) →
    (xs : List X) → All P xs → flat_map f xs ≡ flat_map g (filter q xs)
flat_map_filter P q f g same [] all = refl
flat_map_filter P q f g same (x ∷ xs) all =
    step_kept f g x (q x) (filter q xs) (flat_map f xs) (same x (all_first P x xs all)) (flat_map_filter P q f g same xs (all_rest P x xs all))

cons_if : {X : Type 0} (a b c : Bool) (x : X) (xs ys : List X) → a ≡ (b && c) → xs ≡ cond b ys [] → cond a (x ∷ xs) xs ≡ cond b (cond c (x ∷ ys) ys) []
cons_if a true true x xs ys is more = ap (λ d. cond d (x ∷ xs) xs) is ∙ ap (λ zs. x ∷ zs) more
cons_if a true false x xs ys is more = ap (λ d. cond d (x ∷ xs) xs) is ∙ more
cons_if a false true x xs ys is more = ap (λ d. cond d (x ∷ xs) xs) is ∙ more
cons_if a false false x xs ys is more = ap (λ d. cond d (x ∷ xs) xs) is ∙ more

-- a test made of two conditions: one that is the same for all items, and one that depends on the item
pub filter_if : {X Y : Type 0} (p q : Y → Bool) (b : Bool) (h : X → Y) → ((x : X) → p (h x) ≡ (b && q (h x))) → (xs : List X) →
    filter p (map h xs) ≡ cond b (filter q (map h xs)) []
filter_if p q true h same [] = refl
filter_if p q false h same [] = refl
filter_if p q b h same (x ∷ xs) = cons_if (p (h x)) b (q (h x)) (h x) (filter p (map h xs)) (filter q (map h xs)) (same x) (filter_if p q b h same xs)

all_of_step : (q a b : Bool) → ((not q || a) && b) ≡ cond q (a && b) b
all_of_step true a b = refl
all_of_step false a b = refl

kept_step : {X : Type 0} (p : X → Bool) (q : Bool) (x : X) (xs : List X) → cond q (p x && list_all p xs) (list_all p xs) ≡ list_all p (cond q (x ∷ xs) xs)
kept_step p true x xs = refl
kept_step p false x xs = refl

pub list_all_filter : {X : Type 0} (p q : X → Bool) (xs : List X) → list_all (λ x. not (q x) || p x) xs ≡ list_all p (filter q xs)
list_all_filter p q [] = refl
list_all_filter p q (x ∷ xs) =
    ap (λ b. (not (q x) || p x) && b) (list_all_filter p q xs) ∙ (all_of_step (q x) (p x) (list_all p (filter q xs)) ∙ kept_step p (q x) x (filter q xs))

pub list_all_true : {X : Type 0} (p : X → Bool) (xs : List X) → All (λ x. p x ≡ true) xs → list_all p xs ≡ true
list_all_true p [] h = refl
list_all_true p (x ∷ xs) h = and_from (p x) (list_all p xs) (all_first (λ y. p y ≡ true) x xs h) (list_all_true p xs (all_rest (λ y. p y ≡ true) x xs h))

prefix_step : (b : Bool) (j n m : ℕ) → n ≡ min j m → cond b (1 + n) 0 ≡ min (suc j) (cond b (1 + m) 0)
prefix_step true j n m is = omega (arith, is)
prefix_step false j n m is = omega arith

-- the length of the prefix that passes a test, if only the first items of the list are kept
pub prefix_of_take : {X : Type 0} (p : X → Bool) (j : ℕ) (xs : List X) → prefix_len p (take j xs) ≡ min j (prefix_len p xs)
prefix_of_take p zero [] = omega arith
prefix_of_take p (suc j) [] = omega arith
prefix_of_take p zero (x ∷ xs) = omega arith
prefix_of_take p (suc j) (x ∷ xs) = prefix_step (p x) j (prefix_len p (take j xs)) (prefix_len p xs) (prefix_of_take p j xs)

one_later : (i n m : ℕ) → m ≡ n + 1 → nat_lt i n ≡ nat_lt (suc i) m
one_later i n m is = elim (cases_lt i n) [
  | inl low ↦ lt-ltb i n low ∙ sym (lt-ltb (suc i) m (omega (arith, is, low)))
  | inr high ↦ le-ltb i n high ∙ sym (le-ltb (suc i) m (omega (arith, is, high)))
]

pub is_some_get : (ss : List ℕ) (i : ℕ) → is_some (slice_get ss i) ≡ nat_lt i (length ss)
is_some_get [] i = sym (le-ltb i 0 (omega arith))
is_some_get (s ∷ ss) zero = sym (lt-ltb 0 (length (s ∷ ss)) (omega arith))
is_some_get (s ∷ ss) (suc i) = is_some_get ss i ∙ one_later i (length ss) (length (s ∷ ss)) (omega arith)

pub get_longer : (ss : List ℕ) (s i : ℕ) → is_some (slice_get ss i) ≡ true → slice_get ss i ≡ slice_get (ss ++ s ∷ []) i
get_longer [] s i h = absurd (false≢true h)
get_longer (x ∷ ss) s zero h = refl
get_longer (x ∷ ss) s (suc i) h = get_longer ss s i h

pub sorted_take : {K : Type 0} (R : K → K → Ordering) (n : ℕ) (xs : List K) → IsStrictlySortedBy R xs → IsStrictlySortedBy R (take n xs)
unfolding IsStrictlySortedBy
sorted_take R zero [] up = tt
sorted_take R zero (x ∷ xs) up = tt
sorted_take R (suc n) [] up = tt
sorted_take {K} R (suc n) (x ∷ xs) up =
    let P : K → Type 0 = λ y. R x y ≡ Less in
    (recursion_from_All P (take n xs) (All-take P n xs (All-from_recursion P xs up.0)), sorted_take R n xs up.1)

pub greatest_push : (ns : List ℕ) (n : ℕ) → greatest (ns ++ n ∷ []) ≡ max (greatest ns) n
greatest_push [] n = omega arith
greatest_push (m ∷ ns) n = let rest = greatest_push ns n in omega (arith, rest)
