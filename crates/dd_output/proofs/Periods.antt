-- The law of periods, and of the shear that may follow them.
use Rattle.std.proofs.Common.{◌≡◌, ℕ, zero, suc, ◌+◌, ◌<◌, ◌≤◌, List, [], ◌∷◌, ◌++◌, length, drop, Bool, true, false, cond, inl, inr, ◌⊎◌, refl, sym, ap, subst, ◌∙◌, append_assoc, length-append, arith}
use Rattle.std.proofs.lemmas.{Bool.eq-eqb, Bool.ne_eqb, Bool.ltb-true, Bool.ltb-false, Fmt.decimal_digit}
use Rattle.std.proofs.lemmas.List.{append-nil, Concat.flat_map-cons}
use Rattle.std.proofs.lemmas.List.Elements.{All-from_recursion, recursion_from_All, All-nil, All-cons}
use Rattle.std.specs.{Prelude.codes, Prelude.All, Prelude.◌==◌, Prelude.nat_lt, Fmt.decimal, List.AllByRecursion}
use Rattle.dd_certificate.specs.Text.{line_feed, after_space, spaced_out, shear_text}
use Rattle.dd_certificate.specs.Bounds.{most_number, IsWritableNumber, IsShearFor}
use Rattle.dd_output.specs.reading.Stops.{Read, number_at, Entry, item, last, entries_at, choice_at}
use Rattle.dd_output.specs.reading.Forms.{Form, nothing, number, after}
use Rattle.dd_output.specs.reading.Periods.{PeriodsEnd, ends, shears, period_of, period_at, shear_of, shear_at, period_entry, periods_of, periods}
use Rattle.dd_output.proofs.{Readers.Reads, Readers.map_reads, Readers.same_reads, Readers.choice_reads, Numbers.number_reads}
use Rattle.dd_output.proofs.Signs.{first_digit}
use Rattle.dd_output.proofs.Entries.{entries_text, AllFrom, entry_fits, entry_text, entries_reads, unrolls}
use Rattle.dd_output.proofs.{Loops.Unrolls, EndedLists.IsList, EndedLists.list_more}
use Rattle.dd_output.proofs.Forms.{IsText, Good, text_map, good_after, good_number, InBounds, number_text, Within, ended_number}

abbrev PeriodFits : ℕ → ℕ → Type 0
PeriodFits k p = IsWritableNumber p × (k < 3)

abbrev EndFits : ℕ → PeriodsEnd → Type 0
EndFits k (ends n) = IsWritableNumber n × (k < 3)
EndFits k (shears n) = Within 1 most_number n × (2 ≤ k)

abbrev period_text : ℕ → ℕ → List ℕ
period_text k p = decimal p ++ 32 ∷ []

abbrev end_text : ℕ → PeriodsEnd → List ℕ
end_text k (ends n) = decimal n ++ 10 ∷ []
end_text k (shears n) = codes "shear " ++ (decimal n ++ 10 ∷ [])

abbrev Completed : ℕ → List ℕ → Type 0
Completed = IsList {A = ℕ} {B = PeriodsEnd} PeriodFits period_text EndFits end_text

abbrev Fits : ℕ → Entry ℕ PeriodsEnd → Type 0
Fits = entry_fits PeriodFits EndFits

abbrev text_of : ℕ → Entry ℕ PeriodsEnd → List ℕ
text_of = entry_text period_text end_text

-- the entry is a period; `IsShear` says that it is a shear
abbrev IsPeriod : Entry ℕ PeriodsEnd → Type 0
IsPeriod (item p) = IsWritableNumber p
IsPeriod (last (ends n)) = IsWritableNumber n
IsPeriod (last (shears n)) = ⊥

abbrev IsShear : Entry ℕ PeriodsEnd → Type 0
IsShear (item p) = ⊥
IsShear (last (ends n)) = ⊥
IsShear (last (shears n)) = Within 1 most_number n

period_to : (k : ℕ) (p : ℕ × ℕ) → InBounds 0 most_number 10 32 p → (text_of k (period_of p) ≡ number_text p) × IsPeriod (period_of p)
period_to k p (low, high, inl is) =
    let ended : (p.1 == 10) ≡ true = eq-eqb p.1 10 is in
    rw ended (ap (λ e. decimal p.0 ++ e ∷ []) (sym is), high)
period_to k p (low, high, inr is) =
    let goes_on : (p.1 == 10) ≡ false = ne_eqb p.1 10 (λ e. omega (arith, e, is)) in
    rw goes_on (ap (λ e. decimal p.0 ++ e ∷ []) (sym is), high)

period_from : (k : ℕ) (e : Entry ℕ PeriodsEnd) → IsPeriod e → (x : ℕ × ℕ) × (text_of k e ≡ number_text x) × InBounds 0 most_number 10 32 x × (period_of x ≡ e)
period_from k (item p) good = ((p, 32), refl, (omega arith, good, inr refl), refl)
period_from k (last (ends n)) good = ((n, 10), refl, (omega arith, good, inl refl), refl)
period_from k (last (shears n)) good = elim good [ ]

period_reads : (k : ℕ) → k < 3 → Reads IsPeriod (text_of k) (Completed k) period_at
period_reads k few =
    map_reads (InBounds 0 most_number 10 32) number_text (Completed k) (number_at 0 most_number 10 32 nothing) IsPeriod (text_of k) period_of
    (number_reads 0 most_number 10 32 nothing (omega arith) (omega arith) (omega arith) refl refl (Completed k) (λ m least most. ([], ends m, (most, few), refl)))
    (period_to k) (period_from k)

abbrev shear_form : Form ℕ
shear_form = after (codes "shear ") (number 1 most_number 10)

shear_good : Good (Within 1 most_number) (λ n. codes "shear " ++ ended_number 10 n) shear_form
shear_good = good_after (codes "shear ") (Within 1 most_number) (ended_number 10) (number 1 most_number 10) (good_number 1 most_number 10 (omega arith) (omega arith) (omega arith) refl)

shear_from : (k : ℕ) (e : Entry ℕ PeriodsEnd) → IsShear e → (x : ℕ) × (text_of k e ≡ codes "shear " ++ ended_number 10 x) × Within 1 most_number x × (shear_of x ≡ e)
shear_from k (item p) good = elim good [ ]
shear_from k (last (ends n)) good = elim good [ ]
shear_from k (last (shears n)) good = (n, refl, good, refl)

shear_reads : (k : ℕ) → 2 ≤ k → Reads IsShear (text_of k) (Completed k) shear_at
shear_reads k many =
    map_reads (Within 1 most_number) (λ n. codes "shear " ++ ended_number 10 n) (Completed k) shear_form.read IsShear (text_of k) shear_of
    (same_reads (Within 1 most_number) (λ n. codes "shear " ++ ended_number 10 n) (IsText (Within 1 most_number) (λ n. codes "shear " ++ ended_number 10 n)) shear_form.read
    (Within 1 most_number) (λ n. codes "shear " ++ ended_number 10 n) (Completed k) shear_good.law
    (λ n good. (refl, good)) (λ n good. (refl, good)) (λ text a. ([], shears a.0, (a.1, many), a.2)))
    (λ n good. (refl, good)) (shear_from k)

shear_first : (k : ℕ) (e : Entry ℕ PeriodsEnd) → IsShear e → (more : List ℕ) × (text_of k e ≡ 115 ∷ more)
shear_first k (item p) good = elim good [ ]
shear_first k (last (ends n)) good = elim good [ ]
shear_first k (last (shears n)) good = (codes "hear " ++ (decimal n ++ 10 ∷ []), refl)

number_first : (n end : ℕ) → IsWritableNumber n → (b : ℕ) × (more : List ℕ) × (decimal n ++ end ∷ [] ≡ b ∷ more) × ((b == 115) ≡ false)
number_first n end good =
    let f = first_digit n 0 (omega (arith, good)) (omega arith) (omega arith) in
    (f.first, f.more ++ end ∷ [], ap (λ (l : List ℕ). l ++ end ∷ []) f.is, ne_eqb f.first 115 (λ e. omega (arith, e, f.high)))

period_first : (k : ℕ) (e : Entry ℕ PeriodsEnd) → IsPeriod e → (b : ℕ) × (more : List ℕ) × (text_of k e ≡ b ∷ more) × ((b == 115) ≡ false)
period_first k (item p) good = number_first p 32 good
period_first k (last (ends n)) good = number_first n 10 good
period_first k (last (shears n)) good = elim good [ ]

-- ---- the entry at each index

few_to : (k : ℕ) → k < 2 → (e : Entry ℕ PeriodsEnd) → IsPeriod e → Fits k e
few_to k few (item p) good = (good, omega (arith, few))
few_to k few (last (ends n)) good = (good, omega (arith, few))
few_to k few (last (shears n)) good = elim good [ ]

to_few : (k : ℕ) → k < 2 → (e : Entry ℕ PeriodsEnd) → Fits k e → IsPeriod e
to_few k few (item p) good = good.0
to_few k few (last (ends n)) good = good.0
to_few k few (last (shears n)) good = absurd (omega (arith, few, good.1))

some_to : (k : ℕ) → 2 ≤ k → k < 3 → (e : Entry ℕ PeriodsEnd) → IsShear e ⊎ IsPeriod e → Fits k e
some_to k many few (item p) (inl bad) = elim bad [ ]
some_to k many few (item p) (inr good) = (good, few)
some_to k many few (last (ends n)) (inl bad) = elim bad [ ]
some_to k many few (last (ends n)) (inr good) = (good, few)
some_to k many few (last (shears n)) (inl good) = (good, many)
some_to k many few (last (shears n)) (inr bad) = elim bad [ ]

to_some : (k : ℕ) (e : Entry ℕ PeriodsEnd) → Fits k e → IsShear e ⊎ IsPeriod e
to_some k (item p) good = inr good.0
to_some k (last (ends n)) good = inr good.0
to_some k (last (shears n)) good = inl good.0

full_to : (k : ℕ) → 3 ≤ k → (e : Entry ℕ PeriodsEnd) → IsShear e → Fits k e
full_to k full (item p) good = elim good [ ]
full_to k full (last (ends n)) good = elim good [ ]
full_to k full (last (shears n)) good = (good, omega (arith, full))

to_full : (k : ℕ) → 3 ≤ k → (e : Entry ℕ PeriodsEnd) → Fits k e → IsShear e
to_full k full (item p) good = absurd (omega (arith, full, good.1))
to_full k full (last (ends n)) good = absurd (omega (arith, full, good.1))
to_full k full (last (shears n)) good = good.0

-- a choice between two readers by a test that doesn't depend on the bytes
pub cond_reads : {A : Type 0} (F : A → Type 0) (t : A → List ℕ) (C : List ℕ → Type 0) (b : Bool) (r q : List ℕ → Read A)
    → (b ≡ true → Reads F t C r) → (b ≡ false → Reads F t C q) → Reads F t C (λ bytes. cond b (r bytes) (q bytes))
cond_reads F t C true r q one two = one refl
cond_reads F t C false r q one two = two refl

entry_reads : (k : ℕ) → Reads (Fits k) (text_of k) (Completed k) (period_entry k)
unfolding period_entry
entry_reads k =
    cond_reads (Fits k) (text_of k) (Completed k) (nat_lt k 2) period_at (λ bytes. cond (nat_lt k 3) (choice_at 115 shear_at period_at bytes) (shear_at bytes))
    (λ is. let few : k < 2 = ltb-true k 2 is in
    same_reads IsPeriod (text_of k) (Completed k) period_at (Fits k) (text_of k) (Completed k) (period_reads k (omega (arith, few)))
    (λ e good. (refl, few_to k few e good)) (λ e good. (refl, to_few k few e good)) (λ text c. c))
    (λ is. let many : 2 ≤ k = ltb-false k 2 is in
    cond_reads (Fits k) (text_of k) (Completed k) (nat_lt k 3) (choice_at 115 shear_at period_at) shear_at
    (λ is. let few : k < 3 = ltb-true k 3 is in
    same_reads (λ e. IsShear e ⊎ IsPeriod e) (text_of k) (Completed k) (choice_at 115 shear_at period_at) (Fits k) (text_of k) (Completed k)
    (choice_reads IsShear IsPeriod (text_of k) (Completed k) 115 shear_at period_at (shear_reads k many) (period_reads k few) (shear_first k) (period_first k))
    (λ e good. (refl, some_to k many few e good)) (λ e good. (refl, to_some k e good)) (λ text c. c))
    (λ is. let full : 3 ≤ k = ltb-false k 3 is in
    same_reads IsShear (text_of k) (Completed k) shear_at (Fits k) (text_of k) (Completed k) (shear_reads k many)
    (λ e good. (refl, full_to k full e good)) (λ e good. (refl, to_full k full e good)) (λ text c. c)))

period_some : (p : ℕ) → 0 < length (decimal p ++ 32 ∷ [])
period_some p = omega (arith, length-append (decimal p) (32 ∷ []))

pub periods_unroll : Unrolls {A = ℕ} {B = PeriodsEnd} period_entry
periods_unroll =
    unrolls PeriodFits period_text EndFits end_text Completed period_entry entry_reads (λ k x good. period_some x)
    (λ k x text good rest. list_more PeriodFits period_text EndFits end_text k x text good rest)

-- ---- all periods

-- the periods and the shear are ones that an output can hold
abbrev pub PeriodsFit : List ℕ × ℕ → Type 0
PeriodsFit x = (length x.0 ≤ 3) × ((1 ≤ length x.0) × All IsWritableNumber x.0) × IsWritableNumber x.1 × IsShearFor x.0 x.1

-- the text of the periods and the shear, without the space before the first period
abbrev pub periods_rest : List ℕ × ℕ → List ℕ
periods_rest x = drop 1 (spaced_out x.0 ++ (shear_text x.1 ++ line_feed))

ends_shift : (k : ℕ) (xs : List ℕ) (n : ℕ) → 32 ∷ entries_text period_text end_text k xs (ends n) ≡ spaced_out (xs ++ n ∷ []) ++ line_feed
ends_shift k [] n = sym (ap (λ (l : List ℕ). l ++ line_feed) (flat_map-cons after_space n [] ∙ append-nil (after_space n)))
ends_shift k (x ∷ xs) n =
    let rest = entries_text period_text end_text (suc k) xs (ends n) in
    ap (λ (l : List ℕ). 32 ∷ l) (append_assoc (decimal x) (32 ∷ []) rest)
    ∙ (ap (λ (l : List ℕ). (32 ∷ decimal x) ++ l) (ends_shift (suc k) xs n)
    ∙ (sym (append_assoc (32 ∷ decimal x) (spaced_out (xs ++ n ∷ [])) line_feed)
    ∙ sym (ap (λ (l : List ℕ). l ++ line_feed) (flat_map-cons after_space x (xs ++ n ∷ [])))))

shear_is : (n : ℕ) → 1 ≤ n → 32 ∷ end_text 0 (shears n) ≡ shear_text n ++ line_feed
shear_is n some =
    let said : (n == 0) ≡ false = ne_eqb n 0 (λ e. omega (arith, e)) in
    rw said refl

shears_shift : (k : ℕ) (xs : List ℕ) (n : ℕ) → 1 ≤ n → 32 ∷ entries_text period_text end_text k xs (shears n) ≡ spaced_out xs ++ (shear_text n ++ line_feed)
shears_shift k [] n some = shear_is n some
shears_shift k (x ∷ xs) n some =
    let rest = entries_text period_text end_text (suc k) xs (shears n) in
    ap (λ (l : List ℕ). 32 ∷ l) (append_assoc (decimal x) (32 ∷ []) rest)
    ∙ (ap (λ (l : List ℕ). (32 ∷ decimal x) ++ l) (shears_shift (suc k) xs n some)
    ∙ (sym (append_assoc (32 ∷ decimal x) (spaced_out xs) (shear_text n ++ line_feed))
    ∙ sym (ap (λ (l : List ℕ). l ++ (shear_text n ++ line_feed)) (flat_map-cons after_space x xs))))

record Placed (k : ℕ) (xs : List ℕ) (y : PeriodsEnd) : Type 0 where
  few : k ≤ 3 → k + length xs ≤ 3
  all : AllByRecursion IsWritableNumber xs
  end : EndFits (k + length xs) y

placed : (k : ℕ) (xs : List ℕ) (y : PeriodsEnd) → AllFrom PeriodFits EndFits k xs y → Placed k xs y
placed k [] y good =
    let same : k ≡ k + 0 = omega arith in
    record { few = λ few. omega (arith, few); all = tt; end = subst (λ k. EndFits k y) same good }
placed k (x ∷ xs) y good =
    let p = placed (suc k) xs y good.1 in
    let same : suc k + length xs ≡ k + suc (length xs) = omega arith in
    record {
      few = λ few. let more = p.few (omega (arith, good.0.1)) in omega (arith, more);
      all = (good.0.0, p.all);
      end = subst (λ k. EndFits k y) same p.end;
    }

from_placed : (k : ℕ) (xs : List ℕ) (y : PeriodsEnd) (n : ℕ) → n ≡ k + length xs → n ≤ 3 → AllByRecursion IsWritableNumber xs → EndFits n y → AllFrom PeriodFits EndFits k xs y
from_placed k [] y n long few all end =
    let same : n ≡ k = omega (arith, long) in
    subst (λ k. EndFits k y) same end
from_placed k (x ∷ xs) y n long few all end = ((all.0, omega (arith, long, few)), from_placed (suc k) xs y n (omega (arith, long)) few all.1 end)

abbrev AllPlaced : List ℕ × PeriodsEnd → Type 0
AllPlaced x = AllFrom PeriodFits EndFits 0 x.0 x.1

abbrev whole_text : List ℕ × PeriodsEnd → List ℕ
whole_text x = entries_text period_text end_text 0 x.0 x.1

all_more : (xs : List ℕ) (n : ℕ) → AllByRecursion IsWritableNumber xs → IsWritableNumber n → AllByRecursion IsWritableNumber (xs ++ n ∷ [])
all_more [] n all good = (good, tt)
all_more (x ∷ xs) n all good = (all.0, all_more xs n all.1 good)

all_less : (xs : List ℕ) (n : ℕ) → AllByRecursion IsWritableNumber (xs ++ n ∷ []) → AllByRecursion IsWritableNumber xs × IsWritableNumber n
all_less [] n all = (tt, all.0)
all_less (x ∷ xs) n all = let rest = all_less xs n all.1 in ((all.0, rest.0), rest.1)

whole_to : (x : List ℕ × PeriodsEnd) → AllPlaced x → (periods_rest (periods_of x) ≡ whole_text x) × PeriodsFit (periods_of x)
whole_to (xs, ends n) good =
    let p = placed 0 xs (ends n) good in
    let long : length (xs ++ n ∷ []) ≡ length xs + 1 = length-append xs (n ∷ []) in (
      ap (λ (l : List ℕ). drop 1 l) (sym (ends_shift 0 xs n)),
      (omega (arith, long, p.end.1), (omega (arith, long), All-from_recursion IsWritableNumber (xs ++ n ∷ []) (all_more xs n p.all p.end.0)), omega arith, inl refl),
    )
whole_to (xs, shears n) good =
    let p = placed 0 xs (shears n) good in
    let few = p.few (omega arith) in (
      ap (λ (l : List ℕ). drop 1 l) (sym (shears_shift 0 xs n p.end.0.0)),
      (omega (arith, few), (omega (arith, p.end.1), All-from_recursion IsWritableNumber xs p.all), p.end.0.1, inr (omega (arith, p.end.1))),
    )

record Split (xs : List ℕ) : Type 0 where
  front : List ℕ
  y : ℕ
  is : front ++ y ∷ [] ≡ xs

split_more : (x : ℕ) (xs : List ℕ) → Split xs → Split (x ∷ xs)
split_more x xs s = record { front = x ∷ s.front; y = s.y; is = ap (λ (l : List ℕ). x ∷ l) s.is }

split_line : (x : ℕ) (xs : List ℕ) → Split (x ∷ xs)
split_line x [] = record { front = []; y = x; is = refl }
split_line x (z ∷ xs) = split_more x (z ∷ xs) (split_line z xs)

split_of : (xs : List ℕ) → 1 ≤ length xs → Split xs
split_of [] some = absurd (omega (arith, some))
split_of (x ∷ xs) some = split_line x xs

whole_from : (y : List ℕ × ℕ) → PeriodsFit y → (x : List ℕ × PeriodsEnd) × (periods_rest y ≡ whole_text x) × AllPlaced x × (periods_of x ≡ y)
whole_from (ps, zero) good =
    let s = split_of ps good.1.0 in
    let long : length ps ≡ length s.front + 1 = ap length (sym s.is) ∙ length-append s.front (s.y ∷ []) in
    let all = all_less s.front s.y (subst (AllByRecursion IsWritableNumber) (sym s.is) (recursion_from_All IsWritableNumber ps good.1.1)) in (
      (s.front, ends s.y),
      ap (λ (l : List ℕ). drop 1 (spaced_out l ++ line_feed)) (sym s.is) ∙ ap (λ (l : List ℕ). drop 1 l) (sym (ends_shift 0 s.front s.y)),
      from_placed 0 s.front (ends s.y) (length s.front) (omega arith) (omega (arith, long, good.0)) all.0 (all.1, omega (arith, long, good.0)),
      ap (λ (l : List ℕ). (l, 0)) s.is,
    )
whole_from (ps, suc n) (few, some, most, inl none) = absurd (omega (arith, none))
whole_from (ps, suc n) (few, some, most, inr many) = (
  (ps, shears (suc n)),
  ap (λ (l : List ℕ). drop 1 l) (sym (shears_shift 0 ps (suc n) (omega arith))),
  from_placed 0 ps (shears (suc n)) (length ps) (omega arith) few (recursion_from_All IsWritableNumber ps some.1) ((omega arith, most), many),
  refl,
)

zero_rest : 48 ∷ 10 ∷ [] ≡ periods_rest (0 ∷ [], 0)
zero_rest = ap (λ (l : List ℕ). l ++ 10 ∷ []) (sym (decimal_digit 0 (omega arith))) ∙ ap (λ (l : List ℕ). drop 1 l) (ends_shift 0 [] 0)

pub periods_good : Good PeriodsFit periods_rest periods
unfolding periods
periods_good = record {
  law = text_map AllPlaced whole_text (entries_at period_entry 0) PeriodsFit periods_rest periods_of
      (same_reads AllPlaced whole_text (Completed 0) (entries_at period_entry 0) AllPlaced whole_text (IsText AllPlaced whole_text)
      (entries_reads PeriodFits period_text EndFits end_text Completed period_entry entry_reads (λ k x good. period_some x)
      (λ k x text good rest. list_more PeriodFits period_text EndFits end_text k x text good rest) 0)
      (λ x good. (refl, good)) (λ x good. (refl, good)) (λ text a. ((a.0, a.1), a.2, a.3)))
      whole_to whole_from;
  value = (0 ∷ [], 0);
  fits = (omega arith, (omega arith, All-cons IsWritableNumber 0 [] (omega arith) (All-nil IsWritableNumber)), omega arith, inl refl);
  is = zero_rest;
}
