-- Words and their numbers.
use Rattle.std.proofs.Common.{◌≡◌, ◌<◌, ◌+◌, ◌-◌, ◌*◌, ◌/◌, ◌%◌, ◌^◌, ℕ, zero, suc, List, [], ◌∷◌, ◌++◌, length, map, drop, get_or, refl, sym, ◌∙◌, ap, arith}
use Rattle.std.proofs.Math.{Nat.pow-zero, Nat.pow-succ', Nat.mod-eq_of_lt, Seq.drop-cons}
use Rattle.std.proofs.lemmas.Nat.{div-mul-add, mul-add-lt, mod_below}
use Rattle.std.proofs.lemmas.List.{append_assoc, append-nil, length-append, get_or_append_left, get_or-append-add, get_or-map, length-map}
use Rattle.std.proofs.lemmas.List.Elements.{All-nil, All-cons}
use Rattle.std.specs.List.{All, flat_map, range_with_len}
use lib.Arith.{mod-mul}
use Rattle.dd_minimal.specs.Minimal.{words}
use Rattle.dd_minimal.specs.finding.Numbers.{IsWord, number, strides_of, digits}
use Rattle.dd_minimal.proofs.AllWords.{word_rest, word_first}
use Rattle.dd_values.specs.lemmas.Numbers.{power_some}

-- ---- how many words there are

joined_length : {X : Type 0} (f : ℕ → List X) (k : ℕ) → ((s : ℕ) → length (f s) ≡ k) → (a n : ℕ) → length (flat_map f (range_with_len a n)) ≡ n * k
joined_length f k each a zero = omega arith
joined_length f k each a (suc n) =
    let here = each a in
    let later = joined_length f k each (a + 1) n in
    let both = length-append (f a) (flat_map f (range_with_len (a + 1) n)) in
    omega (arith, here, later, both)

begun_length : (m n : ℕ) → length (words m n) ≡ m ^ n → (s : ℕ) → length (map (λ ss. s ∷ ss) (words m n)) ≡ m ^ n
begun_length m n many s = length-map (words m n) (λ ss. s ∷ ss) ∙ many

pub words_length : (m n : ℕ) → length (words m n) ≡ m ^ n
words_length m zero = sym (pow-zero m)
words_length m (suc n) =
    joined_length (λ s. map (λ ss. s ∷ ss) (words m n)) (m ^ n) (begun_length m n (words_length m n)) 0 m ∙ sym (pow-succ' m n)

-- ---- the number of a word is its index in the list of all words

pub number_cons : (m n s : ℕ) (ss : List ℕ) → length ss ≡ n → number m (s ∷ ss) ≡ s * m ^ n + number m ss
number_cons m n s ss many = ap (λ k. s * m ^ k + number m ss) many

pub number_below : (m n : ℕ) (ss : List ℕ) → IsWord m n ss → number m ss < m ^ n
number_below m zero [] w = let one = pow-zero m in omega (arith, one)
number_below m zero (s ∷ ss) w = absurd (let many = w.as_many in omega (arith, many))
number_below m (suc n) [] w = absurd (let many = w.as_many in omega (arith, many))
number_below m (suc n) (s ∷ ss) w =
    let rest = word_rest m n s ss w in
    let is = number_cons m n s ss rest.as_many in
    let power = pow-succ' m n in
    let row = mul-add-lt s (m ^ n) (number m ss) m (word_first m (suc n) s ss w) (number_below m n ss rest) in
    omega (arith, is, power, row)

-- the item at an index of a concatenation of lists that all have the same length
flat_at : {X : Type 0} (g : ℕ → List X) (d : ℕ) → ((s : ℕ) → length (g s) ≡ d) → (a c s x : ℕ) (e : X) → s < c → x < d →
    get_or (flat_map g (range_with_len a c)) (s * d + x) e ≡ get_or (g (a + s)) x e
flat_at g d each a zero s x e within below = absurd (omega (arith, within))
flat_at g d each a (suc c) zero x e within below =
    let rest = flat_map g (range_with_len (a + 1) c) in
    let here = each a in
    ap (λ i. get_or (g a ++ rest) i e) (omega arith)
    ∙ (get_or_append_left (g a) rest e x (omega (arith, here, below)) ∙ ap (λ k. get_or (g k) x e) (omega arith))
flat_at g d each a (suc c) (suc s) x e within below =
    let rest = flat_map g (range_with_len (a + 1) c) in
    let here = each a in
    let split : suc s * d + x ≡ length (g a) + (s * d + x) = omega (arith, here) in
    ap (λ i. get_or (g a ++ rest) i e) split
    ∙ (get_or-append-add (g a) rest (s * d + x) e
    ∙ (flat_at g d each (a + 1) c s x e (omega (arith, within)) below ∙ ap (λ k. get_or (g k) x e) (omega arith)))

pub words_at : (m n : ℕ) (ss e : List ℕ) → IsWord m n ss → get_or (words m n) (number m ss) e ≡ ss
words_at m zero [] e w = refl
words_at m zero (s ∷ ss) e w = absurd (let many = w.as_many in omega (arith, many))
words_at m (suc n) [] e w = absurd (let many = w.as_many in omega (arith, many))
words_at m (suc n) (s ∷ ss) e w =
    let rest = word_rest m n s ss w in
    let g : ℕ → List (List ℕ) = λ t. map (λ qs. t ∷ qs) (words m n) in
    let many = words_length m n in
    let below = number_below m n ss rest in
    ap (λ i. get_or (words m (suc n)) i e) (number_cons m n s ss rest.as_many)
    ∙ (flat_at g (m ^ n) (begun_length m n many) 0 m s (number m ss) e (word_first m (suc n) s ss w) below
    ∙ (ap (λ t. get_or (g t) (number m ss) e) (let none : 0 + s ≡ s = omega arith in none)
    ∙ (get_or-map (λ qs. s ∷ qs) (words m n) (number m ss) e e (omega (arith, many, below)) ∙ ap (λ qs. s ∷ qs) (words_at m n ss e rest))))

pub table_at : {X : Type 0} (f : List ℕ → X) (m n : ℕ) (ss : List ℕ) (d : X) → IsWord m n ss → get_or (map f (words m n)) (number m ss) d ≡ f ss
table_at f m n ss d w =
    let many = words_length m n in
    let below = number_below m n ss w in
    get_or-map f (words m n) (number m ss) [] d (omega (arith, many, below)) ∙ ap f (words_at m n ss [] w)

pub number_only : (m n : ℕ) (ss qs : List ℕ) → IsWord m n ss → IsWord m n qs → number m ss ≡ number m qs → ss ≡ qs
number_only m n ss qs w v same = sym (words_at m n ss [] w) ∙ (ap (λ i. get_or (words m n) i []) same ∙ words_at m n qs [] v)

-- ---- the word that has a given number

pub strides_length : (m n : ℕ) → length (strides_of m n) ≡ n
strides_length m zero = refl
strides_length m (suc n) = ap suc (strides_length m n)

digits_below : (m at : ℕ) (ds : List ℕ) → 0 < m → All (λ s. s < m) (digits m ds at)
digits_below m at [] some = All-nil (λ s. s < m)
digits_below m at (d ∷ ds) some = All-cons (λ s. s < m) (at / d % m) (digits m ds at) (mod_below (at / d) m some) (digits_below m at ds some)

pub digits_word : (m n at : ℕ) → 0 < m → IsWord m n (digits m (strides_of m n) at)
digits_word m n at some = record { as_many = length-map (strides_of m n) (λ d. at / d % m) ∙ strides_length m n; below = digits_below m at (strides_of m n) some }

digits_number : (m n at : ℕ) → 0 < m → number m (digits m (strides_of m n) at) ≡ at % m ^ n
digits_number m zero at some = let one = pow-zero m in let below = mod_below at (m ^ 0) (power_some m 0 some) in omega (arith, one, below)
digits_number m (suc n) at some =
    number_cons m n (at / m ^ n % m) (digits m (strides_of m n) at) (digits_word m n at some).as_many
    ∙ (ap (λ k. at / m ^ n % m * m ^ n + k) (digits_number m n at some)
    ∙ (sym (mod-mul at some (power_some m n some)) ∙ ap (λ k. at % k) (sym (pow-succ' m n))))

pub number_of_digits : (m n at : ℕ) → 0 < m → at < m ^ n → number m (digits m (strides_of m n) at) ≡ at
number_of_digits m n at some below = digits_number m n at some ∙ mod-eq_of_lt below

-- the state of the loop that lists the strides, after i of its n turns: `now` has the first i strides, and `stride`, which was m ^ n at the start,
-- has been divided by m in each turn
pub record AreStrides (m n i : ℕ) (now : List ℕ) (stride : ℕ) : Type 0 where
  pub list : now ++ strides_of m (n - i) ≡ strides_of m n
  pub power : stride ≡ m ^ (n - i)

pub strides_start : (m n stride : ℕ) (now : List ℕ) → now ≡ [] → stride ≡ m ^ n → AreStrides m n 0 now stride
strides_start m n stride now none is =
    let all : n ≡ n - 0 = omega arith in
    record { list = ap (λ ds. ds ++ strides_of m (n - 0)) none ∙ ap (strides_of m) (sym all); power = is ∙ ap (λ k. m ^ k) all }

pub strides_more : (m n i stride next : ℕ) (now new : List ℕ) → 0 < m → i < n → AreStrides m n i now stride → next ≡ stride / m → new ≡ now ++ next ∷ [] → AreStrides m n (i + 1) new next
strides_more m n i stride next now new some within are is pushed =
    let k = n - (i + 1) in
    let left : n - i ≡ suc k = omega (arith, within) in
    let split : stride ≡ m ^ k * m + 0 = are.power ∙ (ap (λ j. m ^ j) left ∙ (let power = pow-succ' m k in omega (arith, power))) in
    let here : next ≡ m ^ k = is ∙ (ap (λ x. x / m) split ∙ div-mul-add (m ^ k) m 0 some) in
    record {
      list = ap (λ ds. ds ++ strides_of m k) pushed ∙ (append_assoc now (next ∷ []) (strides_of m k)
          ∙ (ap (λ x. now ++ x ∷ strides_of m k) here ∙ (ap (λ j. now ++ strides_of m j) (sym left) ∙ are.list)));
      power = here;
    }

pub strides_end : (m n i stride : ℕ) (now : List ℕ) → i ≡ n → AreStrides m n i now stride → now ≡ strides_of m n
strides_end m n i stride now is are =
    sym (append-nil now) ∙ (ap (λ j. now ++ strides_of m j) (let none : 0 ≡ n - i = omega (arith, is) in none) ∙ are.list)

pub word_next : (m n at : ℕ) → 0 < m → at < m ^ n → drop at (words m n) ≡ digits m (strides_of m n) at ∷ drop (suc at) (words m n)
word_next m n at some below =
    let ss = digits m (strides_of m n) at in
    let many = words_length m n in
    drop-cons (words m n) at [] (omega (arith, many, below))
    ∙ ap (λ qs. qs ∷ drop (suc at) (words m n)) (ap (λ i. get_or (words m n) i []) (sym (number_of_digits m n at some below)) ∙ words_at m n ss [] (digits_word m n at some))
