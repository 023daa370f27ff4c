-- The laws of the parts of answers: lines, patterns, cycles, amounts, sides with periods, and reasons.
use Rattle.std.proofs.Common.{◌≡◌, ℕ, ◌≤◌, List, [], ◌∷◌, ◌++◌, length, drop, Some, None, false, inl, inr, ◌⊎◌, refl, sym, ap, subst, ◌∙◌, append_assoc, arith}
use Rattle.std.proofs.lemmas.{Bool.ne_eqb, Fmt.decimal_digit, List.Elements.All-nil, List.Elements.All-cons}
use Rattle.std.specs.{Prelude.ℤ, Prelude.codes, Prelude.All, Prelude.◌==◌, Fmt.decimal, Fmt.signed_decimal}
use Rattle.dd_certificate.specs.declared.answer.{Side.Side, Reason.Reason}
use Rattle.dd_certificate.specs.Text.{line_feed, numbers_to_end, signed_to_end, fraction_to_end, side_text, reason_text, spaced_out, shear_text, pattern_text}
use Rattle.dd_certificate.specs.Bounds.{most_number, IsWritableNumber, IsWritablePattern}
use Rattle.dd_output.specs.reading.Stops.{number_at, then_at, Entry, item, last}
use Rattle.dd_output.specs.reading.Forms.{word, number, both, after, mapped, either, forked}
use Rattle.dd_output.specs.reading.{Lists.zeros, Lists.numbers, Periods.periods}
use Rattle.dd_output.proofs.{Readers.Reads, Readers.then_reads, Numbers.number_reads, Signs.first_digit}
use Rattle.dd_output.proofs.Lines.{line_rest, LineFits, numbers_good}
use Rattle.dd_output.proofs.Periods.{PeriodsFit, periods_rest, periods_good}
use Rattle.dd_output.proofs.Forms.{IsText, ReadsText, Good, good_word, good_same, good_mapped, good_number, good_both, good_after, good_either, good_forked, ForkFits, fork_text, Within, ended_number, InBounds, number_text, only, anything, text_map}
use Rattle.dd_certificate.specs.declared.answer.Side.TheVariants as side
use Rattle.dd_certificate.specs.declared.answer.Reason.TheVariants as reason
use Rattle.dd_output.specs.reading.Grammar as grammar

-- ---- lines

abbrev pub NumbersFit : List ℕ → Type 0
NumbersFit = LineFits IsWritableNumber 1 None

abbrev pub numbers_rest : List ℕ → List ℕ
numbers_rest = line_rest decimal

pub line_good : Good NumbersFit numbers_rest (numbers 1 None)
line_good = numbers_good 1 None (omega arith) tt

pub numbers_is : (ns : List ℕ) → 1 ≤ length ns → numbers_to_end ns ≡ 32 ∷ numbers_rest ns
numbers_is [] some = absurd (omega (arith, some))
numbers_is (n ∷ ns) some = refl

pub signed_is : (zs : List ℤ) → 1 ≤ length zs → signed_to_end zs ≡ 32 ∷ line_rest signed_decimal zs
signed_is [] some = absurd (omega (arith, some))
signed_is (z ∷ zs) some = refl

abbrev pub FractionFits : ℕ × ℕ → Type 0
FractionFits x = Within 0 most_number x.0 × Within 1 most_number x.1

abbrev pub fraction_text : ℕ × ℕ → List ℕ
fraction_text x = fraction_to_end x.0 x.1

pub fraction_good : Good FractionFits fraction_text grammar.fraction
unfolding grammar.fraction
fraction_good =
    good_same FractionFits (λ x. ended_number 47 x.0 ++ ended_number 10 x.1) (both (number 0 most_number 47) (number 1 most_number 10)) FractionFits fraction_text
    (good_both (Within 0 most_number) (ended_number 47) (number 0 most_number 47) (Within 1 most_number) (ended_number 10) (number 1 most_number 10)
    (good_number 0 most_number 47 (omega arith) (omega arith) (omega arith) refl) (good_number 1 most_number 10 (omega arith) (omega arith) (omega arith) refl))
    (λ x good. (sym (append_assoc (decimal x.0) (47 ∷ []) (decimal x.1 ++ 10 ∷ [])), good))
    (λ x good. (sym (append_assoc (decimal x.0) (47 ∷ []) (decimal x.1 ++ 10 ∷ [])), good))

-- ---- patterns

PatternFits : ℕ × Entry (List ℕ) (Unit {0}) → Type 0
PatternFits = ForkFits {A = List ℕ} {B = Unit {0}} most_number anything NumbersFit

abbrev pattern_fork : ℕ × Entry (List ℕ) (Unit {0}) → List ℕ
pattern_fork = fork_text {A = List ℕ} {B = Unit {0}} (λ _. []) numbers_rest

pattern_to : (x : ℕ × Entry (List ℕ) (Unit {0})) → PatternFits x → (pattern_text (grammar.pattern_of x) ≡ codes "pattern " ++ pattern_fork x) × IsWritablePattern (grammar.pattern_of x)
unfolding PatternFits
pattern_to (n, last u) good = (refl, (good.0, All-nil IsWritableNumber))
pattern_to (n, item ns) good = (ap (λ (l : List ℕ). codes "pattern " ++ (decimal n ++ l)) (numbers_is ns good.1.0), (good.0, good.1.2))

pattern_parts : (n : ℕ) (ns : List ℕ) → IsWritableNumber n → All IsWritableNumber ns
    → (x : ℕ × Entry (List ℕ) (Unit {0})) × (codes "pattern " ++ (decimal n ++ numbers_to_end ns) ≡ codes "pattern " ++ pattern_fork x) × PatternFits x
    × (grammar.pattern_of x ≡ record { node = n; symbols = ns })
unfolding PatternFits
pattern_parts n [] few all = ((n, last tt), refl, (few, tt), refl)
pattern_parts n (m ∷ ns) few all = ((n, item (m ∷ ns)), refl, (few, (omega arith, tt, all)), refl)

pub pattern_good : Good IsWritablePattern pattern_text grammar.pattern
unfolding grammar.pattern PatternFits
pattern_good =
    good_mapped PatternFits (λ x. codes "pattern " ++ pattern_fork x) (after (codes "pattern ") (forked most_number (word []) (numbers 1 None))) IsWritablePattern pattern_text grammar.pattern_of
    (good_after (codes "pattern ") PatternFits pattern_fork (forked most_number (word []) (numbers 1 None))
    (good_forked anything (λ _. []) (word []) NumbersFit numbers_rest (numbers 1 None) (good_word []) line_good most_number (omega arith)))
    pattern_to
    (λ p good. pattern_parts p.node p.symbols good.0 good.1)

-- ---- the states of a cycle, with their number before them

abbrev pub CycleFits : List ℕ → Type 0
CycleFits ns = (1 ≤ length ns) × (length ns ≤ most_number) × All IsWritableNumber ns

abbrev pub cycle_text : List ℕ → List ℕ
cycle_text ns = decimal (length ns) ++ numbers_to_end ns

abbrev StatesFit : (ℕ × ℕ) × List ℕ → Type 0
StatesFit p = InBounds 1 most_number 32 32 p.0 × LineFits IsWritableNumber p.0.0 (Some p.0.0) p.1

abbrev states_text : (ℕ × ℕ) × List ℕ → List ℕ
states_text p = number_text p.0 ++ numbers_rest p.1

states_good : (n : ℕ) → 1 ≤ n → Good (LineFits IsWritableNumber n (Some n)) numbers_rest (numbers n (Some n))
states_good n some = numbers_good n (Some n) some (omega arith)

cycle_to : (p : (ℕ × ℕ) × List ℕ) → StatesFit p → (cycle_text (grammar.cycle_of p) ≡ states_text p) × CycleFits (grammar.cycle_of p)
cycle_to p good =
    let long : length p.1 ≡ p.0.0 = omega (arith, good.1.0, good.1.1) in (
      ap (λ n. decimal n ++ numbers_to_end p.1) long
          ∙ (ap (λ (l : List ℕ). decimal p.0.0 ++ l) (numbers_is p.1 (omega (arith, long, good.0.0)))
          ∙ (ap (λ e. decimal p.0.0 ++ e ∷ numbers_rest p.1) (sym (only 32 p.0.1 good.0.2))
          ∙ sym (append_assoc (decimal p.0.0) (p.0.1 ∷ []) (numbers_rest p.1)))),
      (omega (arith, long, good.0.0), omega (arith, long, good.0.1), good.1.2),
    )

cycle_from : (ns : List ℕ) → CycleFits ns → (x : (ℕ × ℕ) × List ℕ) × (cycle_text ns ≡ states_text x) × StatesFit x × (grammar.cycle_of x ≡ ns)
cycle_from ns good = (
  ((length ns, 32), ns),
  ap (λ (l : List ℕ). decimal (length ns) ++ l) (numbers_is ns good.0) ∙ sym (append_assoc (decimal (length ns)) (32 ∷ []) (numbers_rest ns)),
  ((good.0, good.1, inl refl), (omega arith, omega arith, good.2)),
  refl,
)

pub cycle_good : Good CycleFits cycle_text grammar.cycle
unfolding grammar.cycle numbers
cycle_good =
    let C : List ℕ → Type 0 = IsText StatesFit states_text in
    let number : Reads (InBounds 1 most_number 32 32) number_text C (number_at 1 most_number 32 32 zeros) =
    number_reads 1 most_number 32 32 zeros (omega arith) (omega arith) (omega arith) refl refl C
    (λ m least most. let g = states_good m least in (
      ((m, 32), g.value),
      ((least, most, inl refl), g.fits),
      ap (λ (l : List ℕ). decimal m ++ 32 ∷ l) g.is ∙ sym (append_assoc (decimal m) (32 ∷ []) (numbers_rest g.value)),
    )) in
    let states : ReadsText StatesFit states_text (then_at (number_at 1 most_number 32 32 zeros) (λ n. (numbers n.0 (Some n.0)).read)) =
    then_reads (InBounds 1 most_number 32 32) number_text C (number_at 1 most_number 32 32 zeros)
    (λ n. LineFits IsWritableNumber n.0 (Some n.0)) (λ _. numbers_rest) (λ n. IsText (LineFits IsWritableNumber n.0 (Some n.0)) numbers_rest) (λ n. (numbers n.0 (Some n.0)).read)
    number (λ n good. (states_good n.0 good.0).law)
    (λ n text first a. ((n, a.0), (first, a.1), ap (λ (l : List ℕ). number_text n ++ l) a.2)) in
    record {
      law = text_map StatesFit states_text (then_at (number_at 1 most_number 32 32 zeros) (λ n. (numbers n.0 (Some n.0)).read)) CycleFits cycle_text grammar.cycle_of states cycle_to cycle_from;
      value = 0 ∷ [];
      fits = (omega arith, omega arith, All-cons IsWritableNumber 0 [] (omega arith) (All-nil IsWritableNumber));
      is = rw (decimal_digit 1 (omega arith), decimal_digit 0 (omega arith)) refl;
    }

-- ---- amounts

abbrev IsNone : List ℕ → Type 0
IsNone ns = ns ≡ []

amounts_to : (ns : List ℕ) → IsNone ns ⊎ NumbersFit ns → All IsWritableNumber ns
amounts_to ns (inl none) = subst (All IsWritableNumber) (sym none) (All-nil IsWritableNumber)
amounts_to ns (inr good) = good.2

to_amounts : (ns : List ℕ) → All IsWritableNumber ns → IsNone ns ⊎ NumbersFit ns
to_amounts [] good = inl refl
to_amounts (n ∷ ns) good = inr (omega arith, tt, good)

pub amounts_good : Good (All IsWritableNumber) numbers_to_end grammar.amounts
unfolding grammar.amounts
amounts_good =
    good_same (λ ns. IsNone ns ⊎ NumbersFit ns) numbers_to_end (either 10 (mapped grammar.none_of (word (codes "\n"))) (after (codes " ") (numbers 1 None))) (All IsWritableNumber) numbers_to_end
    (good_either IsNone NumbersFit numbers_to_end 10 (mapped grammar.none_of (word (codes "\n"))) (after (codes " ") (numbers 1 None))
    (good_mapped anything (λ _. codes "\n") (word (codes "\n")) IsNone numbers_to_end grammar.none_of (good_word (codes "\n"))
    (λ x good. (refl, refl)) (λ ns none. (tt, ap numbers_to_end none, tt, sym none)))
    (good_same NumbersFit (λ ns. codes " " ++ numbers_rest ns) (after (codes " ") (numbers 1 None)) NumbersFit numbers_to_end
    (good_after (codes " ") NumbersFit numbers_rest (numbers 1 None) line_good)
    (λ ns good. (numbers_is ns good.0, good)) (λ ns good. (numbers_is ns good.0, good)))
    (λ ns none. ([], ap numbers_to_end none))
    (λ ns good. (32, numbers_rest ns, numbers_is ns good.0, refl)))
    (λ ns good. (refl, amounts_to ns good)) (λ ns good. (refl, to_amounts ns good))

-- ---- sides, and periods after them

abbrev pub SidedFits : Side × (List ℕ × ℕ) → Type 0
SidedFits x = PeriodsFit x.1

abbrev OnSide : Side → Side × (List ℕ × ℕ) → Type 0
OnSide s x = (x.0 ≡ s) × PeriodsFit x.1

abbrev pub sided_rest : Side × (List ℕ × ℕ) → List ℕ
sided_rest x = drop 1 (side_text x.0 ++ (spaced_out x.1.0 ++ (shear_text x.1.1 ++ line_feed)))

pub periods_is : (ps : List ℕ) (n : ℕ) → 1 ≤ length ps → spaced_out ps ++ (shear_text n ++ line_feed) ≡ 32 ∷ periods_rest (ps, n)
periods_is [] n some = absurd (omega (arith, some))
periods_is (p ∷ ps) n some = refl

pub sided_is : (x : Side × (List ℕ × ℕ)) → SidedFits x → side_text x.0 ++ (spaced_out x.1.0 ++ (shear_text x.1.1 ++ line_feed)) ≡ 32 ∷ sided_rest x
sided_is (side.Whole, x) good = periods_is x.0 x.1 good.1.0
sided_is (side.Left, x) good = refl
sided_is (side.Right, x) good = refl

one_side : (s : Side) → Good (OnSide s) (λ x. periods_rest x.1) (grammar.sided s)
one_side s =
    good_mapped PeriodsFit periods_rest periods (OnSide s) (λ x. periods_rest x.1) (λ x. (s, x)) periods_good
    (λ x good. (refl, (refl, good))) (λ y good. (y.1, refl, good.1, ap (λ (s : Side). (s, y.1)) (sym good.0)))

worded_side : (s : Side) (w : List ℕ) → ((x : List ℕ × ℕ) → PeriodsFit x → sided_rest (s, x) ≡ w ++ periods_rest x) → Good (OnSide s) sided_rest (after w (grammar.sided s))
worded_side s w is =
    let same : (x : Side × (List ℕ × ℕ)) → OnSide s x → sided_rest x ≡ w ++ periods_rest x.1 =
    λ x good. ap (λ (s : Side). sided_rest (s, x.1)) good.0 ∙ is x.1 good.1 in
    good_same (OnSide s) (λ x. w ++ periods_rest x.1) (after w (grammar.sided s)) (OnSide s) sided_rest
    (good_after w (OnSide s) (λ x. periods_rest x.1) (grammar.sided s) (one_side s))
    (λ x good. (same x good, good)) (λ x good. (same x good, good))

whole_side : Good (OnSide side.Whole) sided_rest (grammar.sided side.Whole)
whole_side =
    let same : (x : Side × (List ℕ × ℕ)) → OnSide side.Whole x → sided_rest x ≡ periods_rest x.1 = λ x good. ap (λ (s : Side). sided_rest (s, x.1)) good.0 in
    good_same (OnSide side.Whole) (λ x. periods_rest x.1) (grammar.sided side.Whole) (OnSide side.Whole) sided_rest (one_side side.Whole)
    (λ x good. (same x good, good)) (λ x good. (same x good, good))

-- the text begins with a byte of at most 57, which is the digit 9; texts of periods do
record Digit (text : List ℕ) : Type 0 where
  first : ℕ
  more : List ℕ
  is : text ≡ first ∷ more
  high : first ≤ 57

digit_after : (ps : List ℕ) (n : ℕ) → PeriodsFit (ps, n) → Digit (periods_rest (ps, n))
digit_after [] n good = absurd (omega (arith, good.1.0))
digit_after (p ∷ ps) n good =
    let small : IsWritableNumber p = good.1.1 0 0 (omega arith) in
    let f = first_digit p 0 (omega (arith, small)) (omega arith) (omega arith) in
    let end = shear_text n ++ line_feed in
    record {
      first = f.first;
      more = (f.more ++ spaced_out ps) ++ end;
      is = ap (λ (l : List ℕ). (l ++ spaced_out ps) ++ end) f.is;
      high = f.high;
    }

whole_first : (c : ℕ) → 58 ≤ c → (x : Side × (List ℕ × ℕ)) → OnSide side.Whole x → (b : ℕ) × (more : List ℕ) × (sided_rest x ≡ b ∷ more) × ((b == c) ≡ false)
whole_first c low x good =
    let d = digit_after x.1.0 x.1.1 good.1 in
    (d.first, d.more, ap (λ (s : Side). sided_rest (s, x.1)) good.0 ∙ d.is, ne_eqb d.first c (λ e. omega (arith, e, d.high, low)))

other_side : (x : Side × (List ℕ × ℕ)) → OnSide side.Right x ⊎ OnSide side.Whole x → (b : ℕ) × (more : List ℕ) × (sided_rest x ≡ b ∷ more) × ((b == 108) ≡ false)
other_side x (inl good) = (114, codes "ight" ++ (spaced_out x.1.0 ++ (shear_text x.1.1 ++ line_feed)), ap (λ (s : Side). sided_rest (s, x.1)) good.0, refl)
other_side x (inr good) = whole_first 108 (omega arith) x good

side_to : (x : Side × (List ℕ × ℕ)) → OnSide side.Left x ⊎ (OnSide side.Right x ⊎ OnSide side.Whole x) → SidedFits x
side_to x (inl good) = good.1
side_to x (inr (inl good)) = good.1
side_to x (inr (inr good)) = good.1

to_side : (x : Side × (List ℕ × ℕ)) → SidedFits x → OnSide side.Left x ⊎ (OnSide side.Right x ⊎ OnSide side.Whole x)
to_side (side.Left, x) good = inl (refl, good)
to_side (side.Right, x) good = inr (inl (refl, good))
to_side (side.Whole, x) good = inr (inr (refl, good))

pub sides_good : Good SidedFits sided_rest grammar.side_and_periods
unfolding grammar.side_and_periods
sides_good =
    let left = after (codes "left ") (grammar.sided side.Left) in
    let right = after (codes "right ") (grammar.sided side.Right) in
    let whole = grammar.sided side.Whole in
    good_same (λ x. OnSide side.Left x ⊎ (OnSide side.Right x ⊎ OnSide side.Whole x)) sided_rest (either 108 left (either 114 right whole)) SidedFits sided_rest
    (good_either (OnSide side.Left) (λ x. OnSide side.Right x ⊎ OnSide side.Whole x) sided_rest 108 left (either 114 right whole)
    (worded_side side.Left (codes "left ") (λ x good. ap (λ (l : List ℕ). codes "left" ++ l) (periods_is x.0 x.1 good.1.0)))
    (good_either (OnSide side.Right) (OnSide side.Whole) sided_rest 114 right whole
    (worded_side side.Right (codes "right ") (λ x good. ap (λ (l : List ℕ). codes "right" ++ l) (periods_is x.0 x.1 good.1.0))) whole_side
    (λ x good. (codes "ight" ++ (spaced_out x.1.0 ++ (shear_text x.1.1 ++ line_feed)), ap (λ (s : Side). sided_rest (s, x.1)) good.0))
    (whole_first 114 (omega arith)))
    (λ x good. (codes "eft" ++ (spaced_out x.1.0 ++ (shear_text x.1.1 ++ line_feed)), ap (λ (s : Side). sided_rest (s, x.1)) good.0))
    other_side)
    (λ x good. (refl, side_to x good)) (λ x good. (refl, to_side x good))

-- ---- reasons

abbrev pub reason_line : Reason → List ℕ
reason_line r = reason_text r ++ line_feed

abbrev reason_rest : Reason → List ℕ
reason_rest r = drop 1 (reason_line r)

abbrev Is : Reason → Reason → Type 0
Is r s = s ≡ r

one_reason : (t : Reason → List ℕ) (r : Reason) (w : List ℕ) → t r ≡ w → Good (Is r) t (grammar.reason_form w r)
one_reason t r w is =
    good_mapped anything (λ _. w) (word w) (Is r) t (λ _. r) (good_word w) (λ x good. (is, refl)) (λ s same. (tt, ap t same ∙ is, tt, sym same))

abbrev IsLong : Reason → Type 0
IsLong r = Is reason.Large r ⊎ Is reason.Limits r

long_is : (r : Reason) → IsLong r → reason_line r ≡ codes "l" ++ reason_rest r
long_is r (inl same) = ap reason_line same ∙ ap (λ (s : Reason). codes "l" ++ reason_rest s) (sym same)
long_is r (inr same) = ap reason_line same ∙ ap (λ (s : Reason). codes "l" ++ reason_rest s) (sym same)

long_good : Good IsLong reason_line (after (codes "l") (either 97 (grammar.reason_form (codes "arge\n") reason.Large) (grammar.reason_form (codes "imits\n") reason.Limits)))
long_good =
    let two = either 97 (grammar.reason_form (codes "arge\n") reason.Large) (grammar.reason_form (codes "imits\n") reason.Limits) in
    good_same IsLong (λ r. codes "l" ++ reason_rest r) (after (codes "l") two) IsLong reason_line
    (good_after (codes "l") IsLong reason_rest two
    (good_either (Is reason.Large) (Is reason.Limits) reason_rest 97 (grammar.reason_form (codes "arge\n") reason.Large) (grammar.reason_form (codes "imits\n") reason.Limits)
    (one_reason reason_rest reason.Large (codes "arge\n") refl) (one_reason reason_rest reason.Limits (codes "imits\n") refl)
    (λ r same. (codes "rge\n", ap reason_rest same)) (λ r same. (105, codes "mits\n", ap reason_rest same, refl))))
    (λ r good. (long_is r good, good)) (λ r good. (long_is r good, good))

long_first : (c : ℕ) → (108 == c) ≡ false → (r : Reason) → IsLong r → (b : ℕ) × (more : List ℕ) × (reason_line r ≡ b ∷ more) × ((b == c) ≡ false)
long_first c not r good = (108, reason_rest r, long_is r good, not)

pivots_or_long : (r : Reason) → Is reason.Pivots r ⊎ IsLong r → (b : ℕ) × (more : List ℕ) × (reason_line r ≡ b ∷ more) × ((b == 111) ≡ false)
pivots_or_long r (inl same) = (112, codes "ivots\n", ap reason_line same, refl)
pivots_or_long r (inr good) = long_first 111 refl r good

which_reason : (r : Reason) → Is reason.Overflow r ⊎ (Is reason.Pivots r ⊎ IsLong r)
which_reason reason.Overflow = inl refl
which_reason reason.Pivots = inr (inl refl)
which_reason reason.Large = inr (inr (inl refl))
which_reason reason.Limits = inr (inr (inr refl))

pub reason_good : Good anything reason_line grammar.reason_word
unfolding grammar.reason_word
reason_good =
    let overflow = grammar.reason_form (codes "overflow\n") reason.Overflow in
    let pivots = grammar.reason_form (codes "pivots\n") reason.Pivots in
    let long = after (codes "l") (either 97 (grammar.reason_form (codes "arge\n") reason.Large) (grammar.reason_form (codes "imits\n") reason.Limits)) in
    good_same (λ r. Is reason.Overflow r ⊎ (Is reason.Pivots r ⊎ IsLong r)) reason_line (either 111 overflow (either 112 pivots long)) anything reason_line
    (good_either (Is reason.Overflow) (λ r. Is reason.Pivots r ⊎ IsLong r) reason_line 111 overflow (either 112 pivots long)
    (one_reason reason_line reason.Overflow (codes "overflow\n") refl)
    (good_either (Is reason.Pivots) IsLong reason_line 112 pivots long (one_reason reason_line reason.Pivots (codes "pivots\n") refl) long_good
    (λ r same. (codes "ivots\n", ap reason_line same)) (long_first 112 refl))
    (λ r same. (codes "verflow\n", ap reason_line same)) pivots_or_long)
    (λ r good. (refl, tt)) (λ r good. (refl, which_reason r))
