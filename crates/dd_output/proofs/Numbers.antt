-- The law of numbers: they are decimal, without a leading zero and within bounds, and a byte ends each of them.
use Rattle.std.proofs.Common.{◌≡◌, ℕ, ◌+◌, ◌-◌, ◌*◌, ◌/◌, ◌%◌, ◌^◌, ◌<◌, ◌≤◌, List, [], ◌∷◌, ◌++◌, Result, Ok, Err, Bool, true, false, cond, ◌⊎◌, inl, inr, refl, sym, ap, subst, ◌∙◌, append_assoc, arith}
use Rattle.std.proofs.lemmas.Bool.{eqb-true, eq-eqb, ne_eqb, leb-true, le-leb, lt-ltb, ltb-true, and_parts, and_from, or_from, or_left, or_right, or_cases, both_ways}
use Rattle.std.proofs.lemmas.{Fmt.decimal_digit, Fmt.decimal_step, Fmt.decimal_by_steps, List.append-nil}
use Rattle.std.specs.{Prelude.◌==◌, Prelude.◌&&◌, Prelude.◌||◌, Prelude.nat_le, Prelude.nat_lt, Fmt.decimal}
use Rattle.dd_output.specs.reading.Stops.{Stop, stop, is_digit, goes_on, starts, digits_at, number_at}
use Rattle.dd_output.proofs.{Readers.Halts, Readers.Reads, Tokens.chosen_ok, Tokens.chosen_err}

digit_bounds : (b : ℕ) → is_digit b ≡ true → (48 ≤ b) × (b ≤ 57)
digit_bounds b is =
    let p = and_parts (nat_le 48 b) (nat_le b 57) is in
    (leb-true 48 b p.0, leb-true b 57 p.1)

is_digit_from : (b : ℕ) → 48 ≤ b → b ≤ 57 → is_digit b ≡ true
is_digit_from b low high = and_from (nat_le 48 b) (nat_le b 57) (le-leb 48 b low) (le-leb b 57 high)

-- the text of a number above 0 with one more digit, if the number with this digit is below 2^64
decimal_more : (n d : ℕ) → 0 < n → d < 10 → n * 10 + d < 2 ^ 64 → decimal (n * 10 + d) ≡ decimal n ++ (48 + d) ∷ []
decimal_more n d some digit fits =
    let quotient : (n * 10 + d) / 10 ≡ n = omega arith in
    let rest : (n * 10 + d) % 10 ≡ d = omega arith in
    decimal_step (n * 10 + d) (omega arith) fits ∙ rw (quotient, rest) refl

-- e is a byte that can end a number: `end` or `other`
abbrev pub IsEnd : ℕ → ℕ → ℕ → Type 0
IsEnd end other e = (e ≡ end) ⊎ (e ≡ other)

pub is_end : (end other e : ℕ) → IsEnd end other e → (e == end || e == other) ≡ true
is_end end other e (inl p) = or_left (e == end) (e == other) (eq-eqb e end p)
is_end end other e (inr p) = or_right (e == end) (e == other) (eq-eqb e other p)

pub IsEnd_from : (end other e : ℕ) → (e == end || e == other) ≡ true → IsEnd end other e
IsEnd_from end other e p = elim (or_cases (e == end) (e == other) p) [
  | inl q ↦ inl (eqb-true e end q)
  | inr q ↦ inr (eqb-true e other q)
]

not_digit : (b end : ℕ) → is_digit b ≡ true → is_digit end ≡ false → (b == end) ≡ false
not_digit b end is other = ne_eqb b end (λ e. both_ways (is_digit b) (rw e other) is)

-- the text of a number above 0, followed by a digit, is the text of the number with this digit appended, if that number is below 2^64
digit_read : (n b : ℕ) (bytes : List ℕ) → is_digit b ≡ true → 0 < n → n * 10 + (b - 48) < 2 ^ 64 → decimal n ++ b ∷ bytes ≡ decimal (n * 10 + (b - 48)) ++ bytes
digit_read n b bytes is some fits =
    let bounds = digit_bounds b is in
    let cell : 48 + (b - 48) ≡ b = omega (arith, bounds.0) in
    rw (decimal_more n (b - 48) some (omega (arith, bounds.1)) fits, cell) (sym (append_assoc (decimal n) (b ∷ []) bytes))

-- Here b says that the next byte ends the number, and c that it is a further digit. If reading succeeds, one of these holds. If reading stops, b
-- doesn't hold (`either_err`).
either_ok : {A : Type 0} (b c : Bool) (z : A) (r : Result A Stop) (d : Stop) (y : A) → cond b (Ok z) (cond c r (Err d)) ≡ Ok y
    → ((b ≡ true) × (z ≡ y)) ⊎ ((b ≡ false) × (c ≡ true) × (r ≡ Ok y))
either_ok true c z r d y e = inl (refl, cc)
either_ok false true z r d y e = inr (refl, refl, e)
either_ok false false z r d y e = absurd cc

either_err : {A : Type 0} (b c : Bool) (z : A) (r : Result A Stop) (d s : Stop) → cond b (Ok z) (cond c r (Err d)) ≡ Err s
    → ((b ≡ false) × (c ≡ true) × (r ≡ Err s)) ⊎ ((b ≡ false) × (c ≡ false) × (d ≡ s))
either_err true c z r d s e = absurd cc
either_err false true z r d s e = inl (refl, refl, e)
either_err false false z r d s e = inr (refl, refl, cc)

record GoesOn (bound n b : ℕ) : Type 0 where
  digit : is_digit b ≡ true
  some : 0 < n
  below : n * 10 + (b - 48) ≤ bound

GoesOn_from : (bound n b : ℕ) → goes_on bound n b ≡ true → GoesOn bound n b
GoesOn_from bound n b is =
    let p = and_parts (is_digit b) (nat_lt 0 n && nat_le (n * 10 + (b - 48)) bound) is in
    let q = and_parts (nat_lt 0 n) (nat_le (n * 10 + (b - 48)) bound) p.1 in
    record { digit = p.0; some = ltb-true 0 n q.0; below = leb-true _ _ q.1 }

module _ (low bound end other : ℕ) (after : ℕ → List ℕ) (small : low ≤ 1) (some : low ≤ bound) (fits : bound < 2 ^ 64)
    (end_is : is_digit end ≡ false) (other_is : is_digit other ≡ false) where
  digits_step : (n d : ℕ) (bytes : List ℕ) → 0 < n → d < 10 → n * 10 + d ≤ bound
      → digits_at bound end other after n ((48 + d) ∷ bytes) ≡ digits_at bound end other after (n * 10 + d) bytes
  digits_step n d bytes more digit below =
      let is : is_digit (48 + d) ≡ true = is_digit_from (48 + d) (omega arith) (omega arith) in
      let cell : 48 + d - 48 ≡ d = omega arith in
      let no : ((48 + d) == end || (48 + d) == other) ≡ false = or_from ((48 + d) == end) ((48 + d) == other) (not_digit (48 + d) end is end_is) (not_digit (48 + d) other is other_is) in
      let on : goes_on bound n (48 + d) ≡ true =
      and_from (is_digit (48 + d)) (nat_lt 0 n && nat_le (n * 10 + (48 + d - 48)) bound) is
      (and_from (nat_lt 0 n) (nat_le (n * 10 + (48 + d - 48)) bound) (lt-ltb 0 n more) (le-leb (n * 10 + (48 + d - 48)) bound (omega (arith, below)))) in
      rw (no, on, cell) refl

  number_front : (m : ℕ) → m < 2 ^ 64 → low ≤ m → m ≤ bound → (bytes : List ℕ)
      → number_at low bound end other after (decimal m ++ bytes) ≡ digits_at bound end other after m bytes
  number_front m wide = decimal_by_steps
      (λ m ds. low ≤ m → m ≤ bound → (bytes : List ℕ) → number_at low bound end other after (ds ++ bytes) ≡ digits_at bound end other after m bytes)
      (λ n digit least most bytes.
      let cell : 48 + n - 48 ≡ n = omega arith in
      let on : starts low bound (48 + n) ≡ true =
      and_from (is_digit (48 + n)) (nat_le low (48 + n - 48) && nat_le (48 + n - 48) bound) (is_digit_from (48 + n) (omega arith) (omega arith))
      (and_from (nat_le low (48 + n - 48)) (nat_le (48 + n - 48) bound) (le-leb low (48 + n - 48) (omega (arith, least))) (le-leb (48 + n - 48) bound (omega (arith, most)))) in
      rw (on, cell) refl)
      (λ n ds many ih least most bytes.
      let whole : n / 10 * 10 + n % 10 ≡ n = omega arith in
      let first = ih (omega arith) (omega arith) ((48 + n % 10) ∷ bytes) in
      let step : digits_at bound end other after (n / 10) ((48 + n % 10) ∷ bytes) ≡ digits_at bound end other after (n / 10 * 10 + n % 10) bytes =
      digits_step (n / 10) (n % 10) bytes (omega arith) (omega arith) (omega (arith, whole, most)) in
      let last : digits_at bound end other after (n / 10 * 10 + n % 10) bytes ≡ digits_at bound end other after n bytes =
      ap (λ k. digits_at bound end other after k bytes) whole in
      ap (number_at low bound end other after) (append_assoc ds ((48 + n % 10) ∷ []) bytes) ∙ (first ∙ (step ∙ last)))
      m wide

  digits_takes : (bytes : List ℕ) (n m e : ℕ) (rest : List ℕ) → n ≤ bound → digits_at bound end other after n bytes ≡ Ok ((m, e), rest)
      → (decimal n ++ bytes ≡ decimal m ++ e ∷ rest) × (n ≤ m) × (m ≤ bound) × IsEnd end other e
  digits_takes [] n m e rest below is = absurd cc
  digits_takes (b ∷ bytes) n m e rest below is = elim (either_ok (b == end || b == other) (goes_on bound n b) ((n, b), bytes)
      (digits_at bound end other after (n * 10 + (b - 48)) bytes) (stop (b ∷ bytes) (end ∷ after n)) ((m, e), rest) is) [
        | inl p ↦
            let same : n ≡ m = ap (λ (o : (ℕ × ℕ) × List ℕ). o.0.0) p.1 in
            let ended : b ≡ e = ap (λ (o : (ℕ × ℕ) × List ℕ). o.0.1) p.1 in
            let left : bytes ≡ rest = ap (λ (o : (ℕ × ℕ) × List ℕ). o.1) p.1 in
            (rw (same, ended, left) refl, omega (arith, same), omega (arith, same, below), rw (← ended) (IsEnd_from end other b p.0))
        | inr p ↦
            let on = GoesOn_from bound n b p.1 in
            let ih = digits_takes bytes (n * 10 + (b - 48)) m e rest on.below p.2 in
            (digit_read n b bytes on.digit on.some (omega (arith, on.below, fits)) ∙ ih.0, omega (arith, ih.1), ih.2, ih.3)
      ]

  record DigitsHalt (n : ℕ) (bytes : List ℕ) (s : Stop) : Type 0 where
    front : List ℕ
    whole : bytes ≡ front ++ s.left
    value : ℕ
    least : n ≤ value
    most : value ≤ bound
    text : decimal n ++ front ≡ decimal value
    missing : s.missing ≡ end ∷ after value
    no_more : (b : ℕ) (more rest : List ℕ) → s.left ≡ b ∷ more → digits_at bound end other after n (front ++ b ∷ rest) ≡ Err (stop (b ∷ rest) s.missing)

  digits_halt : (bytes : List ℕ) (n : ℕ) (s : Stop) → n ≤ bound → digits_at bound end other after n bytes ≡ Err s → DigitsHalt n bytes s
  digits_halt [] n s below is =
      let same : stop [] (end ∷ after n) ≡ s = cc in
      subst (DigitsHalt n []) same (record {
        front = [];
        whole = refl;
        value = n;
        least = omega arith;
        most = below;
        text = append-nil (decimal n);
        missing = refl;
        no_more = λ b more rest i. absurd cc;
      })
  digits_halt (b ∷ bytes) n s below is = elim (either_err (b == end || b == other) (goes_on bound n b) ((n, b), bytes)
      (digits_at bound end other after (n * 10 + (b - 48)) bytes) (stop (b ∷ bytes) (end ∷ after n)) s is) [
        | inl p ↦
            let on = GoesOn_from bound n b p.1 in
            let h = digits_halt bytes (n * 10 + (b - 48)) s on.below p.2 in
            record {
              front = b ∷ h.front;
              whole = ap (λ (l : List ℕ). b ∷ l) h.whole;
              value = h.value;
              least = omega (arith, h.least);
              most = h.most;
              text = digit_read n b h.front on.digit on.some (omega (arith, on.below, fits)) ∙ h.text;
              missing = h.missing;
              no_more = λ c more rest i. rw (p.0, p.1) (h.no_more c more rest i);
            }
        | inr p ↦ subst (DigitsHalt n (b ∷ bytes)) p.2 (record {
          front = [];
          whole = refl;
          value = n;
          least = omega arith;
          most = below;
          text = append-nil (decimal n);
          missing = refl;
          no_more = λ c more rest i.
              let same : c ≡ b = cc in
              rw (same, p.0, p.1) refl;
        })
      ]

  record Starts (b : ℕ) : Type 0 where
    digit : is_digit b ≡ true
    least : low ≤ b - 48
    most : b - 48 ≤ bound

  Starts_from : (b : ℕ) → starts low bound b ≡ true → Starts b
  Starts_from b is =
      let p = and_parts (is_digit b) (nat_le low (b - 48) && nat_le (b - 48) bound) is in
      let q = and_parts (nat_le low (b - 48)) (nat_le (b - 48) bound) p.1 in
      record { digit = p.0; least = leb-true _ _ q.0; most = leb-true _ _ q.1 }

  digit_first : (b : ℕ) → is_digit b ≡ true → decimal (b - 48) ≡ b ∷ []
  digit_first b is =
      let bounds = digit_bounds b is in
      let cell : 48 + (b - 48) ≡ b = omega (arith, bounds.0) in
      decimal_digit (b - 48) (omega (arith, bounds.1)) ∙ rw cell refl

  number_takes : (bytes : List ℕ) (x : ℕ × ℕ) (rest : List ℕ) → number_at low bound end other after bytes ≡ Ok (x, rest)
      → (bytes ≡ (decimal x.0 ++ x.1 ∷ []) ++ rest) × ((low ≤ x.0) × (x.0 ≤ bound) × IsEnd end other x.1)
  number_takes [] x rest is = absurd cc
  number_takes (b ∷ bytes) x rest is =
      let p = chosen_ok (starts low bound b) (digits_at bound end other after (b - 48) bytes) (stop (b ∷ bytes) ((48 + low) ∷ end ∷ after low)) (x, rest) is in
      let on = Starts_from b p.0 in
      let d = digits_takes bytes (b - 48) x.0 x.1 rest on.most p.1 in
      let text : b ∷ bytes ≡ decimal (b - 48) ++ bytes = rw (digit_first b on.digit) refl in
      (text ∙ (d.0 ∙ sym (append_assoc (decimal x.0) (x.1 ∷ []) rest)), (omega (arith, on.least, d.1), d.2, d.3))

  digits_end : (m e : ℕ) (rest : List ℕ) → IsEnd end other e → digits_at bound end other after m (e ∷ rest) ≡ Ok ((m, e), rest)
  digits_end m e rest ended = rw (is_end end other e ended) refl

  number_again : (x : ℕ × ℕ) (rest : List ℕ) → (low ≤ x.0) × (x.0 ≤ bound) × IsEnd end other x.1
      → number_at low bound end other after ((decimal x.0 ++ x.1 ∷ []) ++ rest) ≡ Ok (x, rest)
  number_again x rest good =
      ap (number_at low bound end other after) (append_assoc (decimal x.0) (x.1 ∷ []) rest)
      ∙ (number_front x.0 (omega (arith, good.1, fits)) good.0 good.1 (x.1 ∷ rest) ∙ digits_end x.0 x.1 rest good.2)

  number_halts : (C : List ℕ → Type 0) → ((m : ℕ) → low ≤ m → m ≤ bound → C (decimal m ++ end ∷ after m))
      → (bytes : List ℕ) (s : Stop) → number_at low bound end other after bytes ≡ Err s → Halts C (number_at low bound end other after) bytes s
  number_halts C short [] s is =
      let same : stop [] ((48 + low) ∷ end ∷ after low) ≡ s = cc in
      let text : decimal low ≡ (48 + low) ∷ [] = decimal_digit low (omega (arith, small)) in
      subst (Halts C (number_at low bound end other after) []) same (record {
        front = [];
        whole = refl;
        completed = subst C (ap (λ (l : List ℕ). l ++ end ∷ after low) text) (short low (omega arith) some);
        no_more = λ b more rest i. absurd cc;
      })
  number_halts C short (b ∷ bytes) s is = elim (chosen_err (starts low bound b) (digits_at bound end other after (b - 48) bytes)
      (stop (b ∷ bytes) ((48 + low) ∷ end ∷ after low)) s is) [
        | inl p ↦
            let on = Starts_from b p.0 in
            let h = digits_halt bytes (b - 48) s on.most p.1 in
            let text : decimal h.value ≡ b ∷ h.front = sym h.text ∙ rw (digit_first b on.digit) refl in
            record {
              front = b ∷ h.front;
              whole = ap (λ (l : List ℕ). b ∷ l) h.whole;
              completed = subst C (ap (λ (l : List ℕ). l ++ end ∷ after h.value) text ∙ ap (λ (l : List ℕ). (b ∷ h.front) ++ l) (sym h.missing)) (short h.value (omega (arith, on.least, h.least)) h.most);
              no_more = λ c more rest i. rw p.0 (h.no_more c more rest i);
            }
        | inr p ↦
            let text : decimal low ≡ (48 + low) ∷ [] = decimal_digit low (omega (arith, small)) in
            subst (Halts C (number_at low bound end other after) (b ∷ bytes)) p.1 (record {
              front = [];
              whole = refl;
              completed = subst C (ap (λ (l : List ℕ). l ++ end ∷ after low) text) (short low (omega arith) some);
              no_more = λ c more rest i.
                  let same : c ≡ b = cc in
                  rw (same, p.0) refl;
            })
      ]

  pub number_reads : (C : List ℕ → Type 0) → ((m : ℕ) → low ≤ m → m ≤ bound → C (decimal m ++ end ∷ after m))
      → Reads (λ p. (low ≤ p.0) × (p.0 ≤ bound) × IsEnd end other p.1) (λ p. decimal p.0 ++ p.1 ∷ []) C (number_at low bound end other after)
  number_reads C short = record {
    takes = number_takes;
    again = number_again;
    stops = number_halts C short;
  }
