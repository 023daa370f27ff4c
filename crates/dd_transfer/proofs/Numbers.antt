-- Numbers and their digits, and lists of the first values of a function.
use Rattle.std.proofs.Common.{◌≡◌, ℕ, zero, suc, ◌+◌, ◌*◌, ◌/◌, ◌%◌, ◌^◌, ◌<◌, ◌≤◌, List, [], ◌∷◌, ◌++◌, length, map, Some, refl, ap, sym, ◌∙◌, subst, arith, append_assoc}
use Rattle.std.proofs.Math.Nat.{pow-suc, pow-zero, mul-le-mul_right}
use Rattle.std.proofs.lemmas.Nat.{div-add-mod', mod-mul-add, div-mul-add, div_below}
use Rattle.std.proofs.lemmas.Option.{slice_get-get_or}
use Rattle.std.proofs.lemmas.List.FromFn.{map-range_with_len_more, length-map-range_with_len, get_or-map-range_with_len}
use Rattle.std.proofs.lemmas.List.{Elements.All-head, Elements.All-tail, Sums.fold-append}
use Rattle.std.specs.{Prelude.slice_get, List.All, List.fold, List.range_with_len}
use Rattle.dd_transfer.specs.{Windows.digits, Slices.number_with_digits, Laws.AreDigits}
use Rattle.dd_transfer.proofs.Digits.{digits_length, digits_below}

abbrev pub step : ℕ → ℕ → ℕ → ℕ
step base n d = n * base + d

-- the number whose digits are those of n followed by ds
pub followed : (base n : ℕ) (ds : List ℕ) → fold (step base) n ds ≡ n * base ^ length ds + number_with_digits base ds
followed base n [] =
    let one : n * base ^ 0 ≡ n * 1 = ap (λ (x : ℕ). n * x) (pow-zero base) in
    let all : n ≡ n * base ^ 0 + 0 = omega (arith, one) in
    all
followed base n (d ∷ ds) =
    let p = base ^ length ds in
    let one : fold (step base) (n * base + d) ds ≡ (n * base + d) * p + number_with_digits base ds = followed base (n * base + d) ds in
    let two : fold (step base) (0 * base + d) ds ≡ (0 * base + d) * p + number_with_digits base ds = followed base (0 * base + d) ds in
    let three : base ^ suc (length ds) ≡ p * base = pow-suc base (length ds) in
    let four : n * base ^ suc (length ds) ≡ n * (p * base) = ap (λ (x : ℕ). n * x) three in
    omega (arith, one, two, four)

pub joined : (base : ℕ) (ds es : List ℕ) → number_with_digits base (ds ++ es) ≡ number_with_digits base ds * base ^ length es + number_with_digits base es
joined base ds es = fold-append (step base) 0 ds es ∙ followed base (number_with_digits base ds) es

-- if the digits ds are appended to those of the number n, the digits of the resulting number are those of n, then ds
after : (base m n : ℕ) (ds : List ℕ) → All (λ d. d < base) ds → digits base (m + length ds) (fold (step base) n ds) ≡ digits base m n ++ ds
after base m n [] ok = ap (λ (k : ℕ). digits base k n) (let e : m + 0 ≡ m = omega arith in e) ∙ sym (append-nil (digits base m n))
  where
    append-nil : (xs : List ℕ) → xs ++ [] ≡ xs
    append-nil [] = refl
    append-nil (x ∷ xs) = ap (λ (ys : List ℕ). x ∷ ys) (append-nil xs)
after base m n (d ∷ ds) ok =
    let lt : d < base = All-head (λ d. d < base) d ds ok in
    let e : m + suc (length ds) ≡ suc m + length ds = omega arith in
    let rest = after base (suc m) (n * base + d) ds (All-tail (λ d. d < base) d ds ok) in
    let q : (n * base + d) / base ≡ n = div-mul-add n base d lt in
    let r : (n * base + d) % base ≡ d = mod-mul-add n base d lt in
    ap (λ (k : ℕ). digits base k (fold (step base) (n * base + d) ds)) e
    ∙ (rest
    ∙ (ap (λ (x : ℕ). (digits base m x ++ (n * base + d) % base ∷ []) ++ ds) q
    ∙ (ap (λ (x : ℕ). (digits base m n ++ x ∷ []) ++ ds) r ∙ append_assoc (digits base m n) (d ∷ []) ds)))

pub digits_of : (base : ℕ) (ds : List ℕ) → All (λ d. d < base) ds → digits base (length ds) (number_with_digits base ds) ≡ ds
digits_of base ds ok = ap (λ (k : ℕ). digits base k (number_with_digits base ds)) (let e : length ds ≡ 0 + length ds = omega arith in e) ∙ after base 0 0 ds ok

pub number_is : (base count n : ℕ) → n < base ^ count → number_with_digits base (digits base count n) ≡ n
number_is base zero n lt = omega (arith, pow-zero base)
number_is base (suc count) n lt =
    let small : n < base ^ count * base = omega (arith, lt, pow-suc base count) in
    let some : 0 < base = positive base (base ^ count) n small in
    let below : n / base < base ^ count = div_below n base (base ^ count) some small in
    fold-append (step base) 0 (digits base count (n / base)) (n % base ∷ [])
    ∙ (ap (λ (x : ℕ). x * base + n % base) (number_is base count (n / base) below) ∙ div-add-mod' n base)
  where
    positive : (base p n : ℕ) → n < p * base → 0 < base
    positive zero p n h = absurd (omega arith)
    positive (suc b) p n h = omega arith

pub number_below : (base : ℕ) (ds : List ℕ) → All (λ d. d < base) ds → number_with_digits base ds < base ^ length ds
number_below base [] ok = omega (arith, pow-zero base)
number_below base (d ∷ ds) ok =
    let p = base ^ length ds in
    let lt : d < base = All-head (λ d. d < base) d ds ok in
    let rest = number_below base ds (All-tail (λ d. d < base) d ds ok) in
    let whole : number_with_digits base (d ∷ ds) ≡ (0 * base + d) * p + number_with_digits base ds = followed base (0 * base + d) ds in
    let room : suc d * p ≤ base * p = mul-le-mul_right p lt in
    omega (arith, rest, whole, room, pow-suc base (length ds))

pub are_digits : (base : ℕ) → AreDigits base
are_digits base = record { each = digits_length base; below = digits_below base; digits_of = digits_of base; number_is = number_is base; joined = joined base }

-- the list of a function's values at the first n numbers
abbrev pub listed : (ℕ → ℕ) → ℕ → List ℕ
listed f n = map f (range_with_len 0 n)

pub listed-suc : (f : ℕ → ℕ) (n : ℕ) → listed f (suc n) ≡ listed f n ++ f n ∷ []
listed-suc f n = ap (listed f) (let e : suc n ≡ n + 1 = omega arith in e) ∙ map-range_with_len_more f 0 n n (omega arith)

pub listed-same : (f g : ℕ → ℕ) (n : ℕ) → ((k : ℕ) → k < n → f k ≡ g k) → listed f n ≡ listed g n
listed-same f g zero h = refl
listed-same f g (suc n) h =
    listed-suc f n
    ∙ (ap (λ (xs : List ℕ). xs ++ f n ∷ []) (listed-same f g n (λ k lt. h k (omega arith)))
    ∙ (ap (λ (x : ℕ). listed g n ++ x ∷ []) (h n (omega arith)) ∙ sym (listed-suc g n)))

pub listed-add : (f : ℕ → ℕ) (m n : ℕ) → listed f (m + n) ≡ listed f m ++ listed (λ k. f (m + k)) n
listed-add f m zero = ap (listed f) (let e : m + 0 ≡ m = omega arith in e) ∙ sym (nothing (listed f m))
  where
    nothing : (xs : List ℕ) → xs ++ [] ≡ xs
    nothing [] = refl
    nothing (x ∷ xs) = ap (λ (ys : List ℕ). x ∷ ys) (nothing xs)
listed-add f m (suc n) =
    ap (listed f) (let e : m + suc n ≡ suc (m + n) = omega arith in e)
    ∙ (listed-suc f (m + n)
    ∙ (ap (λ (xs : List ℕ). xs ++ f (m + n) ∷ []) (listed-add f m n)
    ∙ (append_assoc (listed f m) (listed (λ k. f (m + k)) n) (f (m + n) ∷ [])
    ∙ ap (λ (xs : List ℕ). listed f m ++ xs) (sym (listed-suc (λ k. f (m + k)) n)))))

pub length-listed : (f : ℕ → ℕ) (n : ℕ) → length (listed f n) ≡ n
length-listed f n = length-map-range_with_len f 0 n

pub listed-at : (f : ℕ → ℕ) (n k : ℕ) → k < n → slice_get (listed f n) k ≡ Some (f k)
listed-at f n k lt = slice_get-get_or (listed f n) k 0 (omega (arith, length-listed f n)) ∙ ap Some (get_or-map-range_with_len f 0 n k k 0 lt (omega arith))

pub listed-all : (P : ℕ → Type 0) (f : ℕ → ℕ) (n : ℕ) → ((k : ℕ) → k < n → P (f k)) → All P (listed f n)
listed-all P f n h k d lt =
    let below : k < n = omega (arith, length-listed f n) in
    subst P (sym (get_or-map-range_with_len f 0 n k k d below (omega arith))) (h k below)
