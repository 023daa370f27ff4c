-- The digits of the next number.
use Rattle.std.proofs.Common.{◌≡◌, ℕ, suc, ◌+◌, ◌-◌, ◌*◌, ◌/◌, ◌%◌, ◌<◌, ◌≤◌, List, [], ◌∷◌, ◌++◌, length, get_or, set, take, drop, refl, ap, sym, ◌∙◌, arith}
use Rattle.std.proofs.Math.Seq.{take-suc, take-length, drop-length}
use Rattle.std.proofs.lemmas.Nat.{mod_below, div-add-mod', div-mul-add, mod-mul-add}
use Rattle.std.proofs.lemmas.List.{append_assoc, append-nil, length-append, take-append-drop, take-set, drop-set}
use Rattle.dd_transfer.specs.Windows.{digits}

-- ---- lists

abbrev tail_of : List ℕ → List ℕ
tail_of [] = []
tail_of (x ∷ xs) = xs

abbrev head_of : List ℕ → ℕ
head_of [] = 0
head_of (x ∷ xs) = x

same_ends : (xs ys : List ℕ) (s t : ℕ) → xs ++ s ∷ [] ≡ ys ++ t ∷ [] → (xs ≡ ys) × (s ≡ t)
same_ends [] [] s t h = (refl, ap head_of h)
same_ends [] (y ∷ ys) s t h = absurd (let n = ap length h in let m = length-append ys (t ∷ []) in omega (arith, n, m))
same_ends (x ∷ xs) [] s t h = absurd (let n = ap length h in let m = length-append xs (s ∷ []) in omega (arith, n, m))
same_ends (x ∷ xs) (y ∷ ys) s t h =
    let rest = same_ends xs ys s t (ap tail_of h) in
    let first : x ≡ y = ap head_of h in
    (ap (λ z. z ∷ xs) first ∙ ap (λ zs. y ∷ zs) rest.0, rest.1)

from_set : (xs : List ℕ) (i v : ℕ) → i < length xs → drop i (set xs i v) ≡ v ∷ drop (suc i) xs
from_set xs i v h = let next : i + 1 ≡ suc i = omega arith in drop-set xs i v h ∙ ap (λ (m : ℕ). v ∷ drop m xs) next

set_parts : (xs : List ℕ) (i v : ℕ) → i < length xs → set xs i v ≡ take i xs ++ v ∷ drop (suc i) xs
set_parts xs i v h =
    sym (take-append-drop i (set xs i v)) ∙ (ap (λ (ys : List ℕ). ys ++ drop i (set xs i v)) (take-set xs i v) ∙ ap (λ (ys : List ℕ). take i xs ++ ys) (from_set xs i v h))

-- ---- what is left to carry

-- what is left to do while a digit is carried: the first `at` digits are those of a number, and have to become those of the next number. The other
-- digits are done. Once the first digits are replaced too, the whole list is `wanted`
pub record Carries (base at : ℕ) (xs wanted : List ℕ) : Type 0 where
  pub number : ℕ
  pub begun : take at xs ≡ digits base at number
  pub carried : digits base at (number + 1) ++ drop at xs ≡ wanted

pub carries_all : (base n : ℕ) (xs : List ℕ) → xs ≡ digits base (length xs) n → Carries base (length xs) xs (digits base (length xs) (n + 1))
carries_all base n xs is = record {
  number = n;
  begun = take-length xs ∙ is;
  carried = ap (λ ys. digits base (length xs) (n + 1) ++ ys) (drop-length xs) ∙ append-nil (digits base (length xs) (n + 1));
}

last_digit : (base k : ℕ) (xs : List ℕ) (n : ℕ) → k < length xs → take (suc k) xs ≡ digits base (suc k) n → (take k xs ≡ digits base k (n / base)) × (get_or xs k 0 ≡ n % base)
last_digit base k xs n lt begun = same_ends (take k xs) (digits base k (n / base)) (get_or xs k 0) (n % base) (sym (take-suc xs k 0 lt) ∙ begun)

-- the digit rises by 1, and nothing is left to carry
pub grown : (base k : ℕ) (xs wanted : List ℕ) → 0 < base → k < length xs → Carries base (suc k) xs wanted → get_or xs k 0 < base - 1 → set xs k (get_or xs k 0 + 1) ≡ wanted
grown base k xs wanted some lt h low =
    let n = h.number in
    let ends = last_digit base k xs n lt h.begun in
    let next : n + 1 ≡ n / base * base + (n % base + 1) = omega (arith, div-add-mod' n base) in
    let small : n % base + 1 < base = omega (arith, ends.1, low) in
    let q : (n + 1) / base ≡ n / base = ap (λ (m : ℕ). m / base) next ∙ div-mul-add (n / base) base (n % base + 1) small in
    let d : (n + 1) % base ≡ n % base + 1 = ap (λ (m : ℕ). m % base) next ∙ mod-mul-add (n / base) base (n % base + 1) small in
    set_parts xs k (get_or xs k 0 + 1) lt
    ∙ (ap (λ (ys : List ℕ). ys ++ (get_or xs k 0 + 1) ∷ drop (suc k) xs) ends.0
    ∙ (ap (λ (m : ℕ). digits base k (n / base) ++ (m + 1) ∷ drop (suc k) xs) ends.1
    ∙ (ap (λ (m : ℕ). digits base k m ++ (n % base + 1) ∷ drop (suc k) xs) (sym q)
    ∙ (ap (λ (m : ℕ). digits base k ((n + 1) / base) ++ m ∷ drop (suc k) xs) (sym d)
    ∙ (sym (append_assoc (digits base k ((n + 1) / base)) ((n + 1) % base ∷ []) (drop (suc k) xs)) ∙ h.carried)))))

-- the digit is the greatest possible one: it becomes 0, and the carry goes on
pub carried_on : (base k : ℕ) (xs wanted : List ℕ) → 0 < base → k < length xs → Carries base (suc k) xs wanted → base - 1 ≤ get_or xs k 0 → Carries base k (set xs k 0) wanted
carried_on base k xs wanted some lt h high =
    let n = h.number in
    let ends = last_digit base k xs n lt h.begun in
    let below = mod_below n base some in
    let full : n % base + 1 ≡ base = omega (arith, ends.1, high, below) in
    let next : n + 1 ≡ (n / base + 1) * base + 0 = omega (arith, div-add-mod' n base, full) in
    let q : (n + 1) / base ≡ n / base + 1 = ap (λ (m : ℕ). m / base) next ∙ div-mul-add (n / base + 1) base 0 some in
    let d : (n + 1) % base ≡ 0 = ap (λ (m : ℕ). m % base) next ∙ mod-mul-add (n / base + 1) base 0 some in
    record {
      number = n / base;
      begun = take-set xs k 0 ∙ ends.0;
      carried = ap (λ (ys : List ℕ). digits base k (n / base + 1) ++ ys) (from_set xs k 0 lt)
          ∙ (ap (λ (m : ℕ). digits base k m ++ 0 ∷ drop (suc k) xs) (sym q)
          ∙ (ap (λ (m : ℕ). digits base k ((n + 1) / base) ++ m ∷ drop (suc k) xs) (sym d)
          ∙ (sym (append_assoc (digits base k ((n + 1) / base)) ((n + 1) % base ∷ []) (drop (suc k) xs)) ∙ h.carried)));
    }
