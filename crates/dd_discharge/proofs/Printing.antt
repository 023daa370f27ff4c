-- The numbers of a run's result, as they are printed.
use Rattle.std.proofs.Common.{◌≡◌, ℕ, zero, suc, ◌+◌, ◌*◌, ◌/◌, ◌-◌, ◌<◌, ◌≤◌, List, [], ◌∷◌, ◌++◌, length, get_or, map, take, drop, max, Some, None, inl, inr, refl, sym, ap, subst, ◌∙◌, arith}
use Rattle.std.proofs.lemmas.{Int.ints, List.take_more, List.map-append, List.get_or-append-add}
use Rattle.std.proofs.lemmas.List.{Elements.All-append, Elements.All-nil, Sums.fold-append}
use Rattle.std.proofs.{lemmas.Nat.Gcd.le_of_dvd, lemmas.Grind.common_steps, Math.ListN.get_or-append, Math.Seq.take-length}
use Rattle.std.proofs.Math.Nat.{div-mul_cancel}
use Prim.Native.Nat.{◌∣◌}
use lib.IntN.{ℤ, pos, negsuc}
use lib.Signed.{◌≤ℤ◌}
use Rattle.std.specs.{Int.RustNames.unsigned_abs, List.fold, List.All, List.Any}
use Rattle.dd_values.specs.Bounds.{most_number}
use Rattle.dd_fraction.specs.{Exact.Exact, Exact.den_of, Order.IsNonneg, Checked.IsFraction}
use Rattle.dd_simplex.specs.Programs.{fraction_at, zero_of}
use Rattle.dd_discharge.specs.{declared.fault.DischargeFault.DischargeFault, Faults.OnOverflow}
use Rattle.dd_discharge.specs.Denominators.{joined_denominator, common_denominator, numerator_over, printed, ArePrinted, HasUnprinted, IsPrintedAs}
use Rattle.dd_discharge.proofs.Multiples.{printed_is, printed_none, unprinted, joined_above, joined_grows, each_divides}
use Rattle.dd_discharge.specs.declared.fault.DischargeFault.TheVariants as fault

-- ---- least common denominators: that of two lists together, and that of one list
pub common_past : (xs ys : List Exact) → None ≡ printed (common_denominator xs) → None ≡ printed (common_denominator (xs ++ ys))
common_past xs ys none =
    let past = unprinted (common_denominator xs) none in
    let grows = joined_grows (common_denominator xs) ys (joined_above 1 xs (omega arith)) in
    let whole = fold-append joined_denominator 1 xs ys in
    printed_none (common_denominator (xs ++ ys)) (omega (arith, past, grows, whole))

pub common_some : (xs : List Exact) (n : ℕ) → Some n ≡ printed (common_denominator xs) → 0 < n
common_some xs n e = subst (λ (m : ℕ). 0 < m) (sym (printed_is (common_denominator xs) n e).0) (joined_above 1 xs (omega arith))

-- ---- members of prefixes and of appended lists
one_all : {X : Type 0} (P : X → Type 0) (x : X) (xs : List X) → P x → All P xs → All P (x ∷ xs)
one_all P x xs p h zero d within = p
one_all P x xs p h (suc k) d within = h k d (omega (arith, within))

pub all_more : {X : Type 0} (P : X → Type 0) (xs : List X) (i : ℕ) (x : X) → i < length xs → x ≡ get_or xs i x → P x → All P (take i xs) → All P (take (i + 1) xs)
all_more P xs i x p e h all =
    subst (All P) (sym (take_more xs i x p)) (All-append P (take i xs) (get_or xs i x ∷ []) all (one_all P (get_or xs i x) [] (subst P e h) (All-nil P)))

pub map_more : {X Y : Type 0} (f : X → Y) (xs : List X) (i : ℕ) (x : X) → i < length xs → x ≡ get_or xs i x → map f (take i xs) ++ f x ∷ [] ≡ map f (take (i + 1) xs)
map_more f xs i x p e =
    ap (λ y. map f (take i xs) ++ f y ∷ []) e ∙ (sym (map-append f (take i xs) (get_or xs i x ∷ [])) ∙ ap (map f) (sym (take_more xs i x p)))

any_front : {X : Type 0} (P : X → Type 0) (xs ys : List X) → Any P xs → Any P (xs ++ ys)
any_front P xs ys (k, x, p, e, h) = (k, x, more xs ys k p, get_or-append xs ys x k p ∙ e, h)
  where
    more : {X : Type 0} (xs ys : List X) (k : ℕ) → k < length xs → k < length (xs ++ ys)
    more xs ys k p = grind (arith, common_steps)

pub any_back : {X : Type 0} (P : X → Type 0) (xs ys : List X) → Any P ys → Any P (xs ++ ys)
any_back P xs ys (k, x, p, e, h) = (length xs + k, x, more xs ys k p, get_or-append-add xs ys k x ∙ e, h)
  where
    more : {X : Type 0} (xs ys : List X) (k : ℕ) → k < length ys → length xs + k < length (xs ++ ys)
    more xs ys k p = grind (arith, common_steps)

pub any_later : {X : Type 0} (P : X → Type 0) (xs ys : List X) → Any P (drop 1 xs) → Any P (xs ++ ys)
any_later P [] ys (k, x, p, e, h) = absurd (omega (arith, p))
any_later P (y ∷ xs) ys (k, x, p, e, h) = any_front P (y ∷ xs) ys (suc k, x, omega (arith, p), e, h)

-- ---- the value of the run, which is the first column
pub record Given (v : Exact) (xs ys : List Exact) (n : ℕ) : Type 0 where
  pub fraction : IsFraction v
  pub some : 0 < length xs
  pub first : fraction_at xs 0 ≡ v
  pub sign : IsNonneg v
  pub common : Some n ≡ printed (common_denominator (xs ++ ys))

first_at : (v : Exact) (xs ys : List Exact) → 0 < length xs → fraction_at xs 0 ≡ v → fraction_at (xs ++ ys) 0 ≡ v
first_at v [] ys p e = absurd (omega (arith, p))
first_at v (x ∷ xs) ys p e = e

longer : (xs ys : List Exact) → 0 < length xs → 0 < length (xs ++ ys)
longer xs ys p = grind (arith, common_steps)

pub value_divides : (v : Exact) (xs ys : List Exact) (n : ℕ) → Given v xs ys n → den_of v ∣ n
value_divides v xs ys n g =
    let is = printed_is (common_denominator (xs ++ ys)) n g.common in
    subst (λ (m : ℕ). den_of v ∣ m) (sym is.0)
    (subst (λ (a : Exact). den_of a ∣ common_denominator (xs ++ ys)) (first_at v xs ys g.some g.first) (each_divides 1 (xs ++ ys) 0 zero_of (longer xs ys g.some)))

part_above : (t d : ℕ) {n : ℕ} → t * d ≡ n → 0 < n → 0 < t
part_above zero d e p = absurd (omega (arith, e, p))
part_above (suc t) d e p = omega arith

at_least : (p t m : ℕ) → 0 < t → p * t ≤ m → p ≤ m
at_least p zero m z h = absurd (omega (arith, z))
at_least p (suc t) m z h = omega (arith, h)

pub small_numerator : (v : Exact) (xs ys : List Exact) (n m : ℕ) → Given v xs ys n → Some m ≡ printed (numerator_over n v) → unsigned_abs v.num ≤ most_number
small_numerator v xs ys n m g e =
    let d = value_divides v xs ys n g in
    at_least (unsigned_abs v.num) (n / den_of v) most_number (part_above (n / den_of v) (den_of v) (div-mul_cancel (den_of v) d) (common_some (xs ++ ys) n g.common)) (printed_is (numerator_over n v) m e).1

pub small_denominator : (v : Exact) (xs ys : List Exact) (n : ℕ) → Given v xs ys n → v.den ≤ most_number
small_denominator v xs ys n g =
    let low = le_of_dvd (common_some (xs ++ ys) n g.common) (value_divides v xs ys n g) in
    let is = printed_is (common_denominator (xs ++ ys)) n g.common in
    let above = g.fraction.above in
    omega (arith, low, is.0, is.1, above)

pub signed_is : (z : ℤ) → pos 0 ≤ℤ z → pos (unsigned_abs z) ≡ z
signed_is (pos n) p = refl
signed_is (negsuc n) p = absurd (omega (arith, ints, p))

-- ---- all numbers of the run's result
held_all : (v : Exact) (xs : List Exact) (P : Exact → Type 0) → 0 < length xs → fraction_at xs 0 ≡ v → P v → All P (drop 1 xs) → All P xs
held_all v [] P p e h all = absurd (omega (arith, p))
held_all v (x ∷ xs) P p e h all = one_all P x xs (subst P (sym e) h) all

pub are_printed : (v : Exact) (xs ys : List Exact) (n m : ℕ) → Given v xs ys n → Some m ≡ printed (numerator_over n v)
    → All (λ a. numerator_over n a ≤ most_number) (drop 1 xs) → All (λ a. numerator_over n a ≤ most_number) ys → ArePrinted (xs ++ ys)
are_printed v xs ys n m g e a b =
    let is = printed_is (common_denominator (xs ++ ys)) n g.common in
    let P : ℕ → Exact → Type 0 = λ c a. numerator_over c a ≤ most_number in
    record {
      denominator = is.1;
      numerators = subst (λ (c : ℕ). All (P c) (xs ++ ys)) is.0
          (All-append (P n) xs ys (held_all v xs (P n) g.some g.first (printed_is (numerator_over n v) m e).1 a) b);
    }

pub unprinted_at : (xs : List Exact) (n : ℕ) → Some n ≡ printed (common_denominator xs) → Any (λ a. most_number < numerator_over n a) xs → HasUnprinted xs
unprinted_at xs n e h = inr (subst (λ (c : ℕ). Any (λ a. most_number < numerator_over c a) xs) (printed_is (common_denominator xs) n e).0 h)

abbrev nothing : (X : Type 0) → List X
nothing X = []

take_nothing : {X : Type 0} (n : ℕ) → take n (nothing X) ≡ nothing X
take_nothing zero = refl
take_nothing (suc n) = refl

-- the slice from the second item on is the list without its first item
pub tail_is : {X : Type 0} (xs : List X) → take (length xs - 1) (drop 1 xs) ≡ drop 1 xs
tail_is {X} [] = take_nothing {X = X} (0 - 1)
tail_is (x ∷ xs) = ap (λ (n : ℕ). take n xs) (sized (length xs)) ∙ take-length xs
  where
    sized : (n : ℕ) → suc n - 1 ≡ n
    sized n = omega arith

pub over_from : (f : DischargeFault) (A B : Type 0) → (A → B) → OnOverflow f A → OnOverflow f B
over_from fault.Large A B g h = h
over_from fault.Overflow A B g h = g h
over_from fault.Pivots A B g h = h
over_from fault.Memory A B g h = h

pub printed_as : (v : Exact) (xs ys : List Exact) (n m : ℕ) (p q : ℕ) (amounts duals : List ℕ) → Given v xs ys n → Some m ≡ printed (numerator_over n v) → p ≡ unsigned_abs v.num → q ≡ v.den
    → amounts ≡ map (numerator_over n) (drop 1 xs) → All (λ a. numerator_over n a ≤ most_number) (drop 1 xs)
    → duals ≡ map (numerator_over n) ys → All (λ a. numerator_over n a ≤ most_number) ys
    → IsPrintedAs v xs ys (record { numerator = p; denominator = q; common = n; amounts = amounts; duals = duals })
printed_as v xs ys n m p q amounts duals g e pe qe ae ap_all de dp_all = record {
  printed = are_printed v xs ys n m g e ap_all dp_all;
  numerator_is = ap pos pe ∙ signed_is v.num g.sign.sign;
  denominator_is = qe;
  common_is = (printed_is (common_denominator (xs ++ ys)) n g.common).0;
  amounts_are = ae;
  duals_are = de;
}
