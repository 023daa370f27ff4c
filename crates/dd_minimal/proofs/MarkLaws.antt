-- A walk marks the fillings that agree with the pattern, and no others.
use Rattle.std.proofs.Common.{◌≡◌, ◌<◌, ◌≤◌, ◌+◌, ◌*◌, ◌^◌, ◌||◌, ℕ, suc, Bool, true, false, Option, Some, None, List, [], ◌∷◌, ◌++◌, length, set, get_or, nat_eq, refl, sym, ◌∙◌, ap, subst, inl, inr, ◌⊎◌, arith}
use Rattle.std.proofs.Math.Nat.{pow-zero, pow-succ'}
use Rattle.std.proofs.lemmas.Bool.{and_parts, and_from, cases_eq, false≢true, eq-eqb, eqb-true}
use Rattle.std.proofs.lemmas.{Nat.row_fits, List.length-set, List.get_or-set_same, List.get_or-set_other}
use Rattle.std.proofs.lemmas.List.Folds.{list_any-append}
use Rattle.std.proofs.lemmas.List.Elements.{All-nil, All-head, All-tail}
use Rattle.std.specs.{Prelude.IfSome, List.Contains, List.range_with_len, List.fold}
use Rattle.dd_minimal.specs.Patterns.{agrees, is_covered}
use Rattle.dd_minimal.specs.finding.Numbers.{IsWord, number, open_strides, least_number, KeepsBelow}
use Rattle.dd_minimal.specs.finding.{Walks.marked, States.AreMarks}
use Rattle.dd_minimal.proofs.{Lists.range_within, AllWords.word_rest, AllWords.word_first, AllWords.word_cons}
use Rattle.dd_minimal.proofs.{NumberLaws.number_cons, NumberLaws.number_only, WalkLaws.turned, WalkLaws.joined}
use Rattle.dd_values.specs.lemmas.Members.{Contains-later, Contains-cons_cases, Contains-first, Contains-nil}
use Rattle.dd_values.specs.lemmas.{Booleans.same_bool, Lists.nothing_past, Lists.range_has}

-- ---- folds

-- a property that each step keeps is kept by the whole fold
fold_keeps : {X : Type 0} (step : X → ℕ → X) (Q : X → Type 0) → ((now : X) (s : ℕ) → Q now → Q (step now s)) → (xs : List ℕ) (x : X) → Q x → Q (fold step x xs)
fold_keeps step Q keeps [] x q = q
fold_keeps step Q keeps (s ∷ xs) x q = fold_keeps step Q keeps xs (step x s) (keeps x s q)

-- Suppose that each step keeps L and keeps Q, and that L holds at the start. If some step of the fold yields Q wherever L holds, then Q holds after
-- the fold.
fold_brings : {X : Type 0} (step : X → ℕ → X) (L Q : X → Type 0) → ((now : X) (s : ℕ) → L now → L (step now s)) → ((now : X) (s : ℕ) → Q now → Q (step now s)) →
    (t : ℕ) → ((now : X) → L now → Q (step now t)) → (xs : List ℕ) (x : X) → Contains xs t → L x → Q (fold step x xs)
fold_brings step L Q stands keeps t brings [] x c l = absurd (Contains-nil t c)
fold_brings step L Q stands keeps t brings (s ∷ xs) x c l = elim (Contains-cons_cases s xs t c) [
  | inl same ↦ fold_keeps step Q keeps xs (step x s) (subst (λ k. Q (step x k)) (sym same) (brings x l))
  | inr there ↦ fold_brings step L Q stands keeps t brings xs (step x s) there (stands x s l)
]

-- R holds of some member of the list
pub record Brought (R : ℕ → Type 0) (xs : List ℕ) : Type 0 where
  pub by : ℕ
  pub listed : Contains xs by
  pub is : R by

fold_brought : {X : Type 0} (step : X → ℕ → X) (Q : X → Type 0) (R : ℕ → Type 0) → ((now : X) (s : ℕ) → Q (step now s) → Q now ⊎ R s) → (xs : List ℕ) (x : X) → Q (fold step x xs) → Q x ⊎ Brought R xs
fold_brought step Q R brought [] x q = inl q
fold_brought step Q R brought (s ∷ xs) x q = elim (fold_brought step Q R brought xs (step x s) q) [
  | inl here ↦ (elim (brought x s here) [
    | inl before ↦ inl before
    | inr now ↦ inr (record { by = s; listed = Contains-first s xs; is = now })
  ])
  | inr later ↦ inr (record { by = later.by; listed = Contains-later s xs later.by later.listed; is = later.is })
]

-- ---- marks stay

pub marked_length : (m : ℕ) (ds : List ℕ) (marks : List Bool) (from : ℕ) → length (marked m ds marks from) ≡ length marks
marked_length m [] marks from = length-set marks from true
marked_length m (d ∷ ds) marks from =
    fold_keeps (λ now s. marked m ds now (from + s * d)) (λ now. length now ≡ length marks) (λ now s same. marked_length m ds now (from + s * d) ∙ same) (range_with_len 0 m) marks refl

abbrev IsMarked : ℕ → List Bool → Type 0
IsMarked k marks = get_or marks k false ≡ true

set_stays : (marks : List Bool) (from k : ℕ) → IsMarked k marks → IsMarked k (set marks from true)
set_stays marks from k h = elim (cases_eq k from) [
  | inl same ↦ subst (λ i. IsMarked k (set marks i true)) same (get_or-set_same marks k true false (nothing_past marks k h))
  | inr other ↦ get_or-set_other marks from k true false other ∙ h
]

marked_stays : (m : ℕ) (ds : List ℕ) (marks : List Bool) (from k : ℕ) → IsMarked k marks → IsMarked k (marked m ds marks from)
marked_stays m [] marks from k h = set_stays marks from k h
marked_stays m (d ∷ ds) marks from k h =
    fold_keeps (λ now s. marked m ds now (from + s * d)) (IsMarked k) (λ now s. marked_stays m ds now (from + s * d) k) (range_with_len 0 m) marks h

-- ---- each filling that agrees is marked

abbrev Fits : ℕ → ℕ → ℕ → List Bool → Type 0
Fits m b n marks = b + m ^ n ≤ length marks

fits_behind : (m b n s : ℕ) (marks : List Bool) → s < m → Fits m b (suc n) marks → Fits m (b + s * m ^ n) n marks
fits_behind m b n s marks below fits =
    let power = pow-succ' m n in
    let row = row_fits s (m ^ n) m (m ^ n) below (omega arith) in
    omega (arith, power, row, fits)

pub marked_all : (m : ℕ) (p : List (Option ℕ)) (b : ℕ) (marks : List Bool) → Fits m b (length p) marks → (ss : List ℕ) → IsWord m (length p) ss → agrees p ss ≡ true →
    IsMarked (b + number m ss) (marked m (open_strides m p) marks (b + least_number m p))
marked_all m [] b marks fits [] w ag = let one = pow-zero m in get_or-set_same marks (b + 0) true false (omega (arith, one, fits))
marked_all m [] b marks fits (s ∷ ss) w ag = absurd (false≢true ag)
marked_all m (p ∷ ps) b marks fits [] w ag = absurd (false≢true ag)
marked_all m (None ∷ ps) b marks fits (s ∷ ss) w ag =
    let n = length ps in
    let ds = open_strides m ps in
    let small = word_first m (suc n) s ss w in
    let rest = word_rest m n s ss w in
    let from = b + least_number m ps in
    let place : b + number m (s ∷ ss) ≡ (b + s * m ^ n) + number m ss = ap (λ k. b + k) (number_cons m n s ss rest.as_many) ∙ joined b (s * m ^ n) (number m ss) in
    subst (λ k. IsMarked k (marked m (m ^ n ∷ ds) marks from)) (sym place)
    (fold_brings (λ now t. marked m ds now (from + t * m ^ n)) (λ now. length now ≡ length marks) (IsMarked ((b + s * m ^ n) + number m ss))
    (λ now t same. marked_length m ds now (from + t * m ^ n) ∙ same) (λ now t. marked_stays m ds now (from + t * m ^ n) ((b + s * m ^ n) + number m ss)) s
    (λ now same. subst (λ i. IsMarked ((b + s * m ^ n) + number m ss) (marked m ds now i)) (turned b (s * m ^ n) (least_number m ps))
    (marked_all m ps (b + s * m ^ n) now (subst (λ k. (b + s * m ^ n) + m ^ n ≤ k) (sym same) (fits_behind m b n s marks small fits)) ss rest ag))
    (range_with_len 0 m) marks (range_has m s small) refl)
marked_all m (Some t ∷ ps) b marks fits (s ∷ ss) w ag =
    let n = length ps in
    let ds = open_strides m ps in
    let both = and_parts (nat_eq t s) (agrees ps ss) ag in
    let same = eqb-true t s both.0 in
    let small = word_first m (suc n) s ss w in
    let rest = word_rest m n s ss w in
    let place : b + number m (s ∷ ss) ≡ (b + s * m ^ n) + number m ss = ap (λ k. b + k) (number_cons m n s ss rest.as_many) ∙ joined b (s * m ^ n) (number m ss) in
    let start : (b + s * m ^ n) + least_number m ps ≡ b + (t * m ^ n + least_number m ps) =
    ap (λ k. (b + k * m ^ n) + least_number m ps) (sym same) ∙ sym (joined b (t * m ^ n) (least_number m ps)) in
    subst (λ k. IsMarked k (marked m ds marks (b + (t * m ^ n + least_number m ps)))) (sym place)
    (subst (λ i. IsMarked ((b + s * m ^ n) + number m ss) (marked m ds marks i)) start
    (marked_all m ps (b + s * m ^ n) marks (fits_behind m b n s marks small fits) ss rest both.1))

-- ---- no other filling is marked

pub record IsOne (m : ℕ) (p : List (Option ℕ)) (b k : ℕ) : Type 0 where
  pub filling : List ℕ
  pub word : IsWord m (length p) filling
  pub agreeing : agrees p filling ≡ true
  pub is : k ≡ b + number m filling

one_behind : (m : ℕ) (p : Option ℕ) (ps : List (Option ℕ)) (b k s : ℕ) → s < m → ((ss : List ℕ) → agrees ps ss ≡ true → agrees (p ∷ ps) (s ∷ ss) ≡ true) → IsOne m ps (b + s * m ^ length ps) k → IsOne m (p ∷ ps) b k
one_behind m p ps b k s small agreeing o = record {
  filling = s ∷ o.filling;
  word = word_cons m (length ps) s o.filling small o.word;
  agreeing = agreeing o.filling o.agreeing;
  is = o.is ∙ (sym (joined b (s * m ^ length ps) (number m o.filling)) ∙ ap (λ i. b + i) (sym (number_cons m (length ps) s o.filling o.word.as_many)));
}

pub marked_only : (m : ℕ) (p : List (Option ℕ)) (b : ℕ) (marks : List Bool) (k : ℕ) → KeepsBelow m p → IsMarked k (marked m (open_strides m p) marks (b + least_number m p)) → IsMarked k marks ⊎ IsOne m p b k
marked_only m [] b marks k keeps h = elim (cases_eq k (b + 0)) [
  | inl same ↦ inr (record { filling = []; word = record { as_many = refl; below = All-nil (λ s. s < m) }; agreeing = refl; is = same })
  | inr other ↦ inl (sym (get_or-set_other marks (b + 0) k true false other) ∙ h)
]
marked_only m (None ∷ ps) b marks k keeps h =
    let n = length ps in
    let ds = open_strides m ps in
    let from = b + least_number m ps in
    let later = All-tail (λ p. IfSome p (λ s. s < m)) None ps keeps in
    elim (fold_brought (λ now t. marked m ds now (from + t * m ^ n)) (IsMarked k) (λ s. IsOne m ps (b + s * m ^ n) k)
    (λ now s is. marked_only m ps (b + s * m ^ n) now k later (subst (λ i. IsMarked k (marked m ds now i)) (turned b (least_number m ps) (s * m ^ n)) is)) (range_with_len 0 m) marks h) [
      | inl before ↦ inl before
      | inr one ↦ inr (one_behind m None ps b k one.by (let below = (range_within 0 m one.by one.listed).below in omega (arith, below)) (λ ss ag. ag) one.is)
    ]
marked_only m (Some t ∷ ps) b marks k keeps h =
    let n = length ps in
    let ds = open_strides m ps in
    let small = All-head (λ p. IfSome p (λ s. s < m)) (Some t) ps keeps in
    elim (marked_only m ps (b + t * m ^ n) marks k (All-tail (λ p. IfSome p (λ s. s < m)) (Some t) ps keeps)
    (subst (λ i. IsMarked k (marked m ds marks i)) (joined b (t * m ^ n) (least_number m ps)) h)) [
      | inl before ↦ inl before
      | inr one ↦ inr (one_behind m (Some t) ps b k t small (λ ss ag. and_from (nat_eq t t) (agrees ps ss) (eq-eqb t t refl) ag) one)
    ]

-- ---- so the marks are right for one more pattern

covered_more : (ps : List (List (Option ℕ))) (p : List (Option ℕ)) (ss : List ℕ) → is_covered (ps ++ p ∷ []) ss ≡ (is_covered ps ss || (agrees p ss || false))
covered_more ps p ss = list_any-append (λ q. agrees q ss) ps (p ∷ [])

or_true : (b : Bool) → (b || (true || false)) ≡ true
or_true true = refl
or_true false = refl

or_false : (b : Bool) → (b || (false || false)) ≡ b
or_false true = refl
or_false false = refl

zero_plus : (k : ℕ) → 0 + k ≡ k
zero_plus k = omega arith

not_other : (m n : ℕ) (p : List (Option ℕ)) (ss : List ℕ) → length p ≡ n → IsWord m n ss → agrees p ss ≡ false → IsOne m p 0 (number m ss) → ⊥
not_other m n p ss long w ag o =
    let same : ss ≡ o.filling = number_only m n ss o.filling w (subst (λ k. IsWord m k o.filling) long o.word) (o.is ∙ zero_plus (number m o.filling)) in
    absurd (false≢true (sym ag ∙ (ap (agrees p) same ∙ o.agreeing)))

marks_at : (m n : ℕ) (marks : List Bool) (ps : List (List (Option ℕ))) (p : List (Option ℕ)) (ss : List ℕ) (b : Bool) → length p ≡ n → KeepsBelow m p → length marks ≡ m ^ n → IsWord m n ss →
    get_or marks (number m ss) false ≡ is_covered ps ss → agrees p ss ≡ b →
    get_or (marked m (open_strides m p) marks (0 + least_number m p)) (number m ss) false ≡ (is_covered ps ss || (b || false))
marks_at m n marks ps p ss true long keeps many w before ag =
    ap (λ i. get_or (marked m (open_strides m p) marks (0 + least_number m p)) i false) (sym (zero_plus (number m ss)))
    ∙ (marked_all m p 0 marks (let power = ap (λ k. m ^ k) long in omega (arith, many, power)) ss (subst (λ k. IsWord m k ss) (sym long) w) ag ∙ sym (or_true (is_covered ps ss)))
marks_at m n marks ps p ss false long keeps many w before ag =
    same_bool (get_or (marked m (open_strides m p) marks (0 + least_number m p)) (number m ss) false) (get_or marks (number m ss) false)
    (λ h. elim (marked_only m p 0 marks (number m ss) keeps h) [ inl here ↦ here | inr one ↦ absurd (not_other m n p ss long w ag one) ])
    (marked_stays m (open_strides m p) marks (0 + least_number m p) (number m ss))
    ∙ (before ∙ sym (or_false (is_covered ps ss)))

pub marks_more : (m n : ℕ) (marks : List Bool) (ps : List (List (Option ℕ))) (p : List (Option ℕ)) → length p ≡ n → KeepsBelow m p → length marks ≡ m ^ n → AreMarks m n marks ps →
    AreMarks m n (marked m (open_strides m p) marks (least_number m p)) (ps ++ p ∷ [])
marks_more m n marks ps p long keeps many are ss w =
    ap (λ i. get_or (marked m (open_strides m p) marks i) (number m ss) false) (sym (zero_plus (least_number m p)))
    ∙ (marks_at m n marks ps p ss (agrees p ss) long keeps many w (are ss w) refl ∙ sym (covered_more ps p ss))
