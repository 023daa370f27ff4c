-- Sums, products and powers of counts that are cut off at a limit, and loops over lists.
use Rattle.std.proofs.Common.{◌≡◌, ◌<◌, ◌≤◌, ℕ, zero, suc, ◌+◌, ◌*◌, ◌^◌, List, [], ◌∷◌, ◌++◌, map, take, length, get_or, refl, ap, sym, ◌∙◌, arith, inl, inr}
use Rattle.std.proofs.{Math.Nat.pow-zero, Math.Nat.pow-suc, Math.Nat.mul_comm, lemmas.Bool.cases_lt}
use Rattle.std.proofs.lemmas.List.{take_more, append-nil, Concat.flat_map-append}
use Rattle.std.proofs.lemmas.List.Sums.{sum_by_more, sum_by-take-le}
use Rattle.std.specs.List.{flat_map}
use Rattle.dd_expansion.specs.{Leaves.total, lemmas.Layers.total-map}
use Rattle.dd_formula.specs.Counts.{cut}

module _ {X : Type 0} where
  -- a joined list, with one more list at its end
  pub flat_more : {A : Type 0} (f : X → List A) (xs : List X) (i : ℕ) (x : X) → i < length xs → x ≡ get_or xs i x → flat_map f (take (i + 1) xs) ≡ flat_map f (take i xs) ++ f x
  flat_more f xs i x below is =
      ap (flat_map f) (take_more xs i x below)
      ∙ (flat_map-append f (take i xs) (get_or xs i x ∷ [])
      ∙ (ap (λ ys. flat_map f (take i xs) ++ ys) (append-nil (f (get_or xs i x))) ∙ ap (λ y. flat_map f (take i xs) ++ f y) (sym is)))

  -- a sum, with one more element
  pub total_more : (f : X → ℕ) (xs : List X) (i : ℕ) (x : X) → i < length xs → x ≡ get_or xs i x → total (map f (take (i + 1) xs)) ≡ total (map f (take i xs)) + f x
  total_more f xs i x below is =
      total-map f (take (i + 1) xs)
      ∙ (sum_by_more f xs i x below ∙ (ap (λ n. n + f (get_or xs i x)) (sym (total-map f (take i xs))) ∙ ap (λ y. total (map f (take i xs)) + f y) (sym is)))

  -- the sum over the first elements is at most the sum over all
  pub total-take-le : (f : X → ℕ) (xs : List X) (i : ℕ) → total (map f (take i xs)) ≤ total (map f xs)
  total-take-le f xs i = omega (arith, total-map f (take i xs), total-map f xs, sum_by-take-le f xs i)

-- a sum that is past the limit is cut off to the same number when it grows
pub cut_passed : (l m n : ℕ) → m ≤ n → l < cut l m → cut l m ≡ cut l n
cut_passed l m n le past = omega arith

-- one more term of a sum that is cut off
pub next_cut : (l old term new sum part whole : ℕ) → old ≡ cut l sum → term ≡ cut l part → new ≡ cut l (old + term) → whole ≡ sum + part → new ≡ cut l whole
next_cut l old term new sum part whole a b c d = omega arith

-- ---- if counts are cut off before they are multiplied or raised to a power, the result, cut off, is the same

times_small : (l x y : ℕ) → x ≤ l → cut l (cut l x * y) ≡ cut l (x * y)
times_small l x y le =
    let same : cut l x ≡ x = omega (arith, le) in
    rw same refl

times_large : (l x y : ℕ) → l < x → cut l (cut l x * y) ≡ cut l (x * y)
times_large l x zero lt = omega arith
times_large l x (suc y) lt =
    let top : cut l x ≡ l + 1 = omega (arith, lt) in
    let one : cut l ((l + 1) * suc y) ≡ l + 1 = omega arith in
    let two : cut l (x * suc y) ≡ l + 1 = omega (arith, lt) in
    rw top (one ∙ sym two)

pub cut_times_left : (l x y : ℕ) → cut l (cut l x * y) ≡ cut l (x * y)
cut_times_left l x y = elim (cases_lt l x) [ inl lt ↦ times_large l x y lt | inr le ↦ times_small l x y le ]

pub cut_times_right : (l x y : ℕ) → cut l (x * cut l y) ≡ cut l (x * y)
cut_times_right l x y = ap (cut l) (mul_comm x (cut l y)) ∙ (cut_times_left l y x ∙ ap (cut l) (mul_comm y x))

pub cut_power : (l x n : ℕ) → cut l (cut l x ^ n) ≡ cut l (x ^ n)
cut_power l x zero = ap (cut l) (pow-zero (cut l x) ∙ sym (pow-zero x))
cut_power l x (suc n) =
    ap (cut l) (pow-suc (cut l x) n)
    ∙ (sym (cut_times_left l (cut l x ^ n) (cut l x))
    ∙ (ap (λ m. cut l (m * cut l x)) (cut_power l x n)
    ∙ (cut_times_left l (x ^ n) (cut l x) ∙ (cut_times_right l (x ^ n) x ∙ ap (cut l) (sym (pow-suc x n))))))

-- one more factor
pub power_more : (l b n value new : ℕ) → value ≡ cut l (b ^ n) → new ≡ cut l (value * b) → new ≡ cut l (b ^ (n + 1))
power_more l b n value new is next =
    let more : n + 1 ≡ suc n = omega arith in
    next ∙ (ap (λ v. cut l (v * b)) is ∙ (cut_times_left l (b ^ n) b ∙ ap (cut l) (sym (ap (λ m. b ^ m) more ∙ pow-suc b n))))
