-- The law of the numbers at the end of a line: at least `least` of them, and at most `most` if there is such a bound.
use Rattle.std.proofs.Common.{◌≡◌, ℕ, zero, suc, ◌+◌, ◌-◌, ◌<◌, ◌≤◌, List, [], ◌∷◌, ◌++◌, length, drop, Option, Some, None, Bool, true, false, cond, inl, inr, ◌⊎◌, refl, sym, ap, subst, ◌∙◌, append_assoc, length-append, arith}
use Rattle.std.proofs.lemmas.Bool.{eq-eqb, ne_eqb, lt-ltb, ltb-true, ltb-false, leb-true, leb-false, lt-leb, false≢true, cond-true, cond-false}
use Rattle.std.proofs.lemmas.{Fmt.decimal_digit, List.append-nil, List.Concat.flat_map-cons}
use Rattle.std.proofs.lemmas.List.Elements.{All-from_recursion, recursion_from_All}
use Rattle.std.specs.{Prelude.ℤ, Prelude.pos, Prelude.◌==◌, Prelude.nat_lt, Prelude.All, Fmt.decimal, Fmt.signed_decimal}
use Rattle.std.specs.List.{flat_map, AllByRecursion}
use Rattle.dd_certificate.specs.Bounds.{most_number, IsWritableNumber, IsWritableSigned}
use Rattle.dd_output.specs.reading.Stops.{Read, is_digit, number_at, map_at, Entry, item, last, entries_at}
use Rattle.dd_output.specs.reading.Lists.{AtMost, is_last, end_at, other_at, zeros, line_entry_of, line_of, line_entry, numbers, signed_at, signed_entry, integers}
use Rattle.dd_output.proofs.{Readers.Reads, Readers.map_reads, Readers.same_reads, Numbers.IsEnd, Numbers.number_reads, Signs.signed_reads}
use Rattle.dd_output.proofs.Entries.{entries_text, AllFrom, entry_fits, entry_text, entries_reads, unrolls}
use Rattle.dd_output.proofs.{Loops.Unrolls, EndedLists.IsList, EndedLists.list_more}
use Rattle.dd_output.proofs.Forms.{IsText, ReadsText, Good, text_map}

-- ---- how many numbers a line has

not_last : (most : Option ℕ) (k : ℕ) → is_last most k ≡ false → AtMost most (suc (suc k))
not_last None k is = tt
not_last (Some most) k is = omega (arith, leb-false most (suc k) is)

is_not_last : (most : Option ℕ) (k n : ℕ) → AtMost most n → suc k < n → is_last most k ≡ false
is_not_last None k n fits more = refl
is_not_last (Some most) k n fits more = lt-leb most (suc k) (omega (arith, fits, more))

last_enough : (most : Option ℕ) (k least : ℕ) → is_last most k ≡ true → AtMost most least → least ≤ suc k
last_enough None k least is room = absurd (false≢true is)
last_enough (Some most) k least is room = omega (arith, leb-true most (suc k) is, room)

-- ---- the bytes that can end a number

abbrev Enough : ℕ → ℕ → Type 0
Enough least k = least ≤ suc k

abbrev Goes : Option ℕ → ℕ → Type 0
Goes most k = is_last most k ≡ false

end_by : (least k : ℕ) (b : Bool) → nat_lt (suc k) least ≡ b → (e : ℕ) → e ≡ cond b 32 10 → ((e ≡ 10) × Enough least k) ⊎ ((e ≡ 32) × (suc k < least))
end_by least k true is e same = inr (same, ltb-true (suc k) least is)
end_by least k false is e same = inl (same, ltb-false (suc k) least is)

other_by : (most : Option ℕ) (k : ℕ) (b : Bool) → is_last most k ≡ b → (e : ℕ) → e ≡ cond b 10 32 → ((e ≡ 10) × (is_last most k ≡ true)) ⊎ ((e ≡ 32) × Goes most k)
other_by most k true is e same = inl (same, is)
other_by most k false is e same = inr (same, is)

which : (least : ℕ) (most : Option ℕ) → AtMost most least → (k e : ℕ) → IsEnd (end_at least k) (other_at most k) e → ((e ≡ 10) × Enough least k) ⊎ ((e ≡ 32) × Goes most k)
which least most room k e (inl is) = elim (end_by least k (nat_lt (suc k) least) refl e is) [
  | inl done ↦ inl done
  | inr more ↦ inr (more.0, is_not_last most k least room more.1)
]
which least most room k e (inr is) = elim (other_by most k (is_last most k) refl e is) [
  | inl done ↦ inl (done.0, last_enough most k least done.1 room)
  | inr more ↦ inr more
]

end_enough : (least k : ℕ) → Enough least k → end_at least k ≡ 10
end_enough least k enough = cond-false (nat_lt (suc k) least) 32 10 (lt-leb (suc (suc k)) least (omega (arith, enough)))

end_more : (least k : ℕ) → suc k < least → end_at least k ≡ 32
end_more least k more = cond-true (nat_lt (suc k) least) 32 10 (lt-ltb (suc k) least more)

other_goes : (most : Option ℕ) (k : ℕ) → Goes most k → other_at most k ≡ 32
other_goes most k is = cond-false (is_last most k) 10 32 is

end_no_digit : (b : Bool) → is_digit (cond b 32 10) ≡ false
end_no_digit true = refl
end_no_digit false = refl

other_no_digit : (b : Bool) → is_digit (cond b 10 32) ≡ false
other_no_digit true = refl
other_no_digit false = refl

abbrev pub entries_with : {A : Type 0} → (ℕ → ℕ → List ℕ → List ℕ → Read (A × ℕ)) → ℕ → Option ℕ → ℕ → List ℕ → Read (Entry A A)
entries_with one least most k = map_at line_entry_of (one (end_at least k) (other_at most k) (zeros (least - suc k)))

-- a value, with a space before it
abbrev pub after_shown : {A : Type 0} → (A → List ℕ) → A → List ℕ
after_shown show x = 32 ∷ show x

-- a line's values and the line feed, without the space before the first value
abbrev pub line_rest : {A : Type 0} → (A → List ℕ) → List A → List ℕ
line_rest show xs = drop 1 (flat_map (after_shown show) xs ++ 10 ∷ [])

abbrev pub LineFits : {A : Type 0} → (A → Type 0) → ℕ → Option ℕ → List A → Type 0
LineFits F least most xs = (least ≤ length xs) × AtMost most (length xs) × All F xs

-- ---- lists of values, all of which are shown and read in the same way

module _ {A : Type 0} (F : A → Type 0) (show : A → List ℕ) (nil : A) (nil_fits : F nil) (nil_is : show nil ≡ 48 ∷ [])
    (one : ℕ → ℕ → List ℕ → List ℕ → Read (A × ℕ))
    (one_reads : (end other : ℕ) (rest : List ℕ) → is_digit end ≡ false → is_digit other ≡ false → (C : List ℕ → Type 0)
    → ((x : A) → F x → C (show x ++ end ∷ rest)) → Reads (λ p. F p.0 × IsEnd end other p.1) (λ p. show p.0 ++ p.1 ∷ []) C (one end other rest))
    (least : ℕ) (most : Option ℕ) (some : 1 ≤ least) (room : AtMost most least) where
  abbrev ItemFits : ℕ → A → Type 0
  ItemFits k x = F x × Goes most k

  abbrev LastFits : ℕ → A → Type 0
  LastFits k x = F x × Enough least k

  abbrev item_text : ℕ → A → List ℕ
  item_text k x = show x ++ 32 ∷ []

  abbrev last_text : ℕ → A → List ℕ
  last_text k x = show x ++ 10 ∷ []

  abbrev Completed : ℕ → List ℕ → Type 0
  Completed = IsList {A = A} {B = A} ItemFits item_text LastFits last_text

  zeros_is : (d k : ℕ) → least - suc (suc k) ≡ d → suc k < least → zeros (suc d) ≡ 48 ∷ end_at least (suc k) ∷ zeros d
  zeros_is zero k is more = ap (λ e. 48 ∷ e ∷ []) (sym (end_enough least (suc k) (omega (arith, is, more))))
  zeros_is (suc d) k is more = ap (λ e. 48 ∷ e ∷ zeros (suc d)) (sym (end_more least (suc k) (omega (arith, is))))

  filled : (d k : ℕ) → least - suc k ≡ d → (x : A) → F x → Completed k (show x ++ end_at least k ∷ zeros d)
  filled zero k is x good =
      let enough : Enough least k = omega (arith, is) in
      ([], x, (good, enough), ap (λ e. show x ++ e ∷ []) (end_enough least k enough))
  filled (suc d) k is x good =
      let more : suc k < least = omega (arith, is) in
      let next : least - suc (suc k) ≡ d = omega (arith, is) in
      let text : show x ++ end_at least k ∷ zeros (suc d) ≡ (show x ++ 32 ∷ []) ++ (show nil ++ end_at least (suc k) ∷ zeros d) =
      ap (λ e. show x ++ e ∷ zeros (suc d)) (end_more least k more)
      ∙ (ap (λ (l : List ℕ). show x ++ 32 ∷ l) (zeros_is d k next more)
      ∙ (ap (λ (l : List ℕ). show x ++ 32 ∷ (l ++ end_at least (suc k) ∷ zeros d)) (sym nil_is)
      ∙ sym (append_assoc (show x) (32 ∷ []) (show nil ++ end_at least (suc k) ∷ zeros d)))) in
      subst (Completed k) (sym text)
      (list_more ItemFits item_text LastFits last_text k x (show nil ++ end_at least (suc k) ∷ zeros d) (good, is_not_last most k least room more)
      (filled d (suc k) next nil nil_fits))

  entry_to : (k : ℕ) (p : A × ℕ) → F p.0 × IsEnd (end_at least k) (other_at most k) p.1
      → (entry_text item_text last_text k (line_entry_of p) ≡ show p.0 ++ p.1 ∷ []) × entry_fits ItemFits LastFits k (line_entry_of p)
  entry_to k p good = elim (which least most room k p.1 good.1) [
    | inl is ↦
        let yes : (p.1 == 10) ≡ true = eq-eqb p.1 10 is.0 in
        rw yes (ap (λ e. show p.0 ++ e ∷ []) (sym is.0), (good.0, is.1))
    | inr is ↦
        let not : (p.1 == 10) ≡ false = ne_eqb p.1 10 (λ e. omega (arith, e, is.0)) in
        rw not (ap (λ e. show p.0 ++ e ∷ []) (sym is.0), (good.0, is.1))
  ]

  entry_from : (k : ℕ) (e : Entry A A) → entry_fits ItemFits LastFits k e
      → (x : A × ℕ) × (entry_text item_text last_text k e ≡ show x.0 ++ x.1 ∷ []) × (F x.0 × IsEnd (end_at least k) (other_at most k) x.1) × (line_entry_of x ≡ e)
  entry_from k (item x) good = ((x, 32), refl, (good.0, inr (sym (other_goes most k good.1))), refl)
  entry_from k (last x) good = ((x, 10), refl, (good.0, inl (sym (end_enough least k good.1))), refl)

  entry_reads : (k : ℕ) → Reads (entry_fits ItemFits LastFits k) (entry_text item_text last_text k) (Completed k) ((entries_with one least most) k)
  entry_reads k =
      map_reads (λ p. F p.0 × IsEnd (end_at least k) (other_at most k) p.1) (λ p. show p.0 ++ p.1 ∷ []) (Completed k)
      (one (end_at least k) (other_at most k) (zeros (least - suc k))) (entry_fits ItemFits LastFits k) (entry_text item_text last_text k) line_entry_of
      (one_reads (end_at least k) (other_at most k) (zeros (least - suc k)) (end_no_digit (nat_lt (suc k) least)) (other_no_digit (is_last most k)) (Completed k)
      (filled (least - suc k) k refl))
      (entry_to k) (entry_from k)

  item_some : (x : A) → 0 < length (show x ++ 32 ∷ [])
  item_some x = omega (arith, length-append (show x) (32 ∷ []))

  pub line_unrolls : Unrolls {A = A} {B = A} (entries_with one least most)
  line_unrolls =
      unrolls ItemFits item_text LastFits last_text Completed (entries_with one least most) entry_reads (λ k x good. item_some x)
      (λ k x text good rest. list_more ItemFits item_text LastFits last_text k x text good rest)

  line_shift : (k : ℕ) (xs : List A) (y : A) → 32 ∷ entries_text item_text last_text k xs y ≡ flat_map (after_shown show) (xs ++ y ∷ []) ++ 10 ∷ []
  line_shift k [] y = sym (ap (λ (l : List ℕ). l ++ 10 ∷ []) (flat_map-cons (after_shown show) y [] ∙ append-nil ((after_shown show) y)))
  line_shift k (x ∷ xs) y =
      let rest = entries_text item_text last_text (suc k) xs y in
      ap (λ (l : List ℕ). 32 ∷ l) (append_assoc (show x) (32 ∷ []) rest)
      ∙ (ap (λ (l : List ℕ). (32 ∷ show x) ++ l) (line_shift (suc k) xs y)
      ∙ (sym (append_assoc (32 ∷ show x) (flat_map (after_shown show) (xs ++ y ∷ [])) (10 ∷ []))
      ∙ sym (ap (λ (l : List ℕ). l ++ 10 ∷ []) (flat_map-cons (after_shown show) x (xs ++ y ∷ [])))))

  line_is : (xs : List A) (y : A) → (line_rest show) (xs ++ y ∷ []) ≡ entries_text item_text last_text 0 xs y
  line_is xs y = ap (λ (l : List ℕ). drop 1 l) (sym (line_shift 0 xs y))

  fits_to : (k : ℕ) (xs : List A) (y : A) → AtMost most (suc k) → AllFrom ItemFits LastFits k xs y
      → (least ≤ k + length (xs ++ y ∷ [])) × AtMost most (k + length (xs ++ y ∷ [])) × AllByRecursion F (xs ++ y ∷ [])
  fits_to k [] y few good =
      let long : k + 1 ≡ suc k = omega arith in
      (omega (arith, good.1), subst (AtMost most) (sym long) few, (good.0, tt))
  fits_to k (x ∷ xs) y few good =
      let rest = fits_to (suc k) xs y (not_last most k good.0.1) good.1 in
      let long : k + suc (length (xs ++ y ∷ [])) ≡ suc k + length (xs ++ y ∷ []) = omega arith in
      (omega (arith, rest.0), subst (AtMost most) (sym long) rest.1, (good.0.0, rest.2))

  fits_from : (k : ℕ) (xs : List A) (y : A) (n : ℕ) → n ≡ k + length (xs ++ y ∷ []) → least ≤ n → AtMost most n → AllByRecursion F (xs ++ y ∷ [])
      → AllFrom ItemFits LastFits k xs y
  fits_from k [] y n long enough few good = (good.0, omega (arith, long, enough))
  fits_from k (x ∷ xs) y n long enough few good =
      let tail : length (xs ++ y ∷ []) ≡ length xs + 1 = length-append xs (y ∷ []) in
      ((good.0, is_not_last most k n few (omega (arith, long, tail))), fits_from (suc k) xs y n (omega (arith, long)) enough few good.1)

  -- a list, split into all items but the last, and the last one
  record Split (xs : List A) : Type 0 where
    front : List A
    y : A
    is : front ++ y ∷ [] ≡ xs

  split_more : (x : A) (xs : List A) → Split xs → Split (x ∷ xs)
  split_more x xs s = record { front = x ∷ s.front; y = s.y; is = ap (λ (l : List A). x ∷ l) s.is }

  split_line : (x : A) (xs : List A) → Split (x ∷ xs)
  split_line x [] = record { front = []; y = x; is = refl }
  split_line x (z ∷ xs) = split_more x (z ∷ xs) (split_line z xs)

  AllAt : List A × A → Type 0
  AllAt x = AllFrom ItemFits LastFits 0 x.0 x.1

  split_from : (xs : List A) → (LineFits F least most) xs → (s : Split xs) → (x : List A × A) × ((line_rest show) xs ≡ entries_text item_text last_text 0 x.0 x.1) × AllAt x × (line_of x ≡ xs)
  unfolding AllAt
  split_from xs good s =
      let long : length xs ≡ 0 + length (s.front ++ s.y ∷ []) = omega (arith, ap length s.is) in (
        (s.front, s.y),
        ap (line_rest show) (sym s.is) ∙ line_is s.front s.y,
        fits_from 0 s.front s.y (length xs) long good.0 good.1 (subst (AllByRecursion F) (sym s.is) (recursion_from_All F xs good.2)),
        s.is,
      )

  line_from : (xs : List A) → (LineFits F least most) xs → (x : List A × A) × ((line_rest show) xs ≡ entries_text item_text last_text 0 x.0 x.1) × AllAt x × (line_of x ≡ xs)
  line_from [] good = absurd (omega (arith, good.0, some))
  line_from (x ∷ xs) good = split_from (x ∷ xs) good (split_line x xs)

  one_most : (most : Option ℕ) → AtMost most least → AtMost most 1
  one_most None room = tt
  one_most (Some m) room = omega (arith, room, some)

  line_to : (x : List A × A) → AllAt x → ((line_rest show) (line_of x) ≡ entries_text item_text last_text 0 x.0 x.1) × (LineFits F least most) (line_of x)
  unfolding AllAt
  line_to x good =
      let all = fits_to 0 x.0 x.1 (one_most most room) good in
      let long : 0 + length (x.0 ++ x.1 ∷ []) ≡ length (x.0 ++ x.1 ∷ []) = omega arith in
      (line_is x.0 x.1, (omega (arith, all.0), subst (AtMost most) long all.1, All-from_recursion F (x.0 ++ x.1 ∷ []) all.2))

  line_reads : ReadsText (LineFits F least most) (line_rest show) (map_at line_of (entries_at (entries_with one least most) 0))
  unfolding AllAt
  line_reads =
      let t : List A × A → List ℕ = λ x. entries_text item_text last_text 0 x.0 x.1 in
      text_map AllAt t (entries_at (entries_with one least most) 0) (LineFits F least most) (line_rest show) line_of
      (same_reads AllAt t (Completed 0) (entries_at (entries_with one least most) 0) AllAt t (IsText AllAt t)
      (entries_reads ItemFits item_text LastFits last_text Completed (entries_with one least most) entry_reads (λ k x good. item_some x)
      (λ k x text good rest. list_more ItemFits item_text LastFits last_text k x text good rest) 0)
      (λ x good. (refl, good)) (λ x good. (refl, good)) (λ text a. ((a.0, a.1), a.2, a.3)))
      line_to line_from

  least_text : (d : ℕ) → least ≡ suc d → zeros least ≡ show nil ++ end_at least 0 ∷ zeros d
  least_text zero is = rw (nil_is, end_enough least 0 (omega (arith, is))) (ap zeros is)
  least_text (suc d) is = rw (nil_is, end_more least 0 (omega (arith, is))) (ap zeros is)

  a_line : (text : List ℕ) → Completed 0 text → (x : List A) × (LineFits F least most) x × (text ≡ (line_rest show) x)
  unfolding AllAt
  a_line text c =
      let line = line_to (c.0, c.1) c.2 in
      (c.0 ++ c.1 ∷ [], line.1, c.3 ∙ sym line.0)

  -- the least line is the line of some list that fits
  least_line : (d : ℕ) → least ≡ suc d → (x : List A) × (LineFits F least most) x × (zeros least ≡ (line_rest show) x)
  least_line d is =
      let l = a_line (show nil ++ end_at least 0 ∷ zeros d) (filled d 0 (omega (arith, is)) nil nil_fits) in
      (l.0, l.1, least_text d is ∙ l.2)

  pub good_line : Good (LineFits F least most) (line_rest show) (record { read = map_at line_of (entries_at (entries_with one least most) 0); least = zeros least })
  good_line =
      let l = least_line (least - 1) (omega (arith, some)) in
      record { law = line_reads; value = l.0; fits = l.1; is = l.2 }

-- ---- numbers, and signed numbers

abbrev one_number : ℕ → ℕ → List ℕ → List ℕ → Read (ℕ × ℕ)
one_number end other rest = number_at 0 most_number end other (λ _. rest)

one_number_reads : (end other : ℕ) (rest : List ℕ) → is_digit end ≡ false → is_digit other ≡ false → (C : List ℕ → Type 0)
    → ((x : ℕ) → IsWritableNumber x → C (decimal x ++ end ∷ rest)) → Reads (λ p. IsWritableNumber p.0 × IsEnd end other p.1) (λ p. decimal p.0 ++ p.1 ∷ []) C (one_number end other rest)
one_number_reads end other rest p q C more =
    same_reads (λ p. (0 ≤ p.0) × (p.0 ≤ most_number) × IsEnd end other p.1) (λ p. decimal p.0 ++ p.1 ∷ []) C (one_number end other rest)
    (λ p. IsWritableNumber p.0 × IsEnd end other p.1) (λ p. decimal p.0 ++ p.1 ∷ []) C
    (number_reads 0 most_number end other (λ _. rest) (omega arith) (omega arith) (omega arith) p q C (λ m least most. more m most))
    (λ x good. (refl, (good.1, good.2))) (λ x good. (refl, (omega arith, good.0, good.1))) (λ text good. good)

pub numbers_good : (least : ℕ) (most : Option ℕ) → 1 ≤ least → AtMost most least → Good (LineFits IsWritableNumber least most) (line_rest decimal) (numbers least most)
unfolding numbers line_entry
numbers_good = good_line IsWritableNumber decimal 0 (omega arith) (decimal_digit 0 (omega arith)) one_number one_number_reads

pub numbers_unroll : (least : ℕ) (most : Option ℕ) → 1 ≤ least → AtMost most least → Unrolls (line_entry least most)
unfolding line_entry
numbers_unroll = line_unrolls IsWritableNumber decimal 0 (omega arith) (decimal_digit 0 (omega arith)) one_number one_number_reads

signed_zero : signed_decimal (pos 0) ≡ 48 ∷ []
signed_zero = decimal_digit 0 (omega arith)

one_signed_reads : (end other : ℕ) (rest : List ℕ) → is_digit end ≡ false → is_digit other ≡ false → (C : List ℕ → Type 0)
    → ((x : ℤ) → IsWritableSigned x → C (signed_decimal x ++ end ∷ rest)) → Reads (λ p. IsWritableSigned p.0 × IsEnd end other p.1) (λ p. signed_decimal p.0 ++ p.1 ∷ []) C (signed_at most_number end other rest)
one_signed_reads end other rest p q C more = signed_reads most_number end other rest (omega arith) (omega arith) p q C more

pub integers_good : (least : ℕ) (most : Option ℕ) → 1 ≤ least → AtMost most least → Good (LineFits IsWritableSigned least most) (line_rest signed_decimal) (integers least most)
unfolding integers signed_entry
integers_good = good_line IsWritableSigned signed_decimal (pos 0) (omega arith) signed_zero (signed_at most_number) one_signed_reads

pub integers_unroll : (least : ℕ) (most : Option ℕ) → 1 ≤ least → AtMost most least → Unrolls (signed_entry least most)
unfolding signed_entry
integers_unroll = line_unrolls IsWritableSigned signed_decimal (pos 0) (omega arith) signed_zero (signed_at most_number) one_signed_reads
