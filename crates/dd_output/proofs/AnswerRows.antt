-- The laws of all kinds of answers (except those in `ConjugacyRows` and `LeastRows`), of the rows of the table, and of the whole table.
use Rattle.std.proofs.Common.{◌≡◌, ℕ, ◌≤◌, List, [], ◌∷◌, ◌++◌, length, drop, Some, None, true, inl, inr, refl, sym, ap, ◌∙◌, append_assoc, arith}
use Rattle.std.proofs.lemmas.List.{append-nil}
use Rattle.std.specs.{Prelude.ℤ, Prelude.codes, Prelude.All, Fmt.decimal, Fmt.signed_decimal}
use Rattle.dd_derivation.specs.declared.step.Step.{Step}
use Rattle.dd_certificate.specs.declared.answer.{Side.Side, Reason.Reason, Listed.Listed}
use Rattle.dd_certificate.specs.declared.answer.{Starred.Starred, Answer.Answer}
use Rattle.dd_certificate.specs.Text.{numbers_to_end, signed_to_end, fraction_to_end, refutation_text, pattern_text, starred_text, further_lines}
use Rattle.dd_certificate.specs.Bounds.{most_number, IsWritableNumber, IsWritableSigned, IsWritableRefutation, IsWritablePattern, IsWritableStarred, IsWritable}
use Rattle.dd_output.specs.reading.Stops.{Entry, item, last}
use Rattle.dd_output.specs.reading.Forms.{Form, word, number, both, after, counted, forked, table}
use Rattle.dd_output.specs.reading.Lists.{numbers, integers}
use Rattle.dd_output.proofs.{Lines.line_rest, Lines.LineFits, Lines.integers_good, Steps.refutation_good}
use Rattle.dd_output.proofs.Tables.{is_among, good_table}
use Rattle.dd_output.proofs.FirstBytes.{body_text, first_of, first_is, Row, second_of, Second, tail_text, Either, good_front}
use Rattle.dd_output.proofs.{Starred.starred_good, ConjugacyRows.conjugate_good, ConjugacyRows.broken_good}
use Rattle.dd_output.proofs.LeastRows.{least_good, nothing_good}
use Rattle.dd_output.proofs.Forms.{Good, good_word, good_same, good_mapped, good_number, good_both, good_after, good_counted, good_forked, CountedIn, counted_text, ForkFits, fork_text, Within, ended_number, anything}
use Rattle.dd_output.proofs.Rows.{NumbersFit, numbers_rest, line_good, numbers_is, signed_is, FractionFits, fraction_text, fraction_good, pattern_good, CycleFits, cycle_text, cycle_good, amounts_good, SidedFits, sided_rest, sided_is, sides_good, reason_line, reason_good}
use Rattle.dd_certificate.specs.declared.answer.Answer.TheVariants as answer
use Rattle.dd_output.specs.reading.Grammar as grammar

-- ---- IN and OUT

inside_from : (a : Answer) → Row 73 a → (x : Unit {0}) × (body_text a ≡ codes "IN\n") × Unit {0} × (grammar.inside_of x ≡ a)
inside_from answer.Inside good = (tt, refl, tt, refl)
inside_from a good = absurd (omega (arith, good.1))

inside_good : Good (Row 73) body_text grammar.inside_row
unfolding grammar.inside_row
inside_good = good_mapped anything (λ _. codes "IN\n") (word (codes "IN\n")) (Row 73) body_text grammar.inside_of (good_word (codes "IN\n")) (λ x good. (refl, (tt, refl))) inside_from

abbrev PlaceFits : List ℤ → Type 0
PlaceFits = LineFits IsWritableSigned 2 (Some 4)

place_is : (zs : List ℤ) → 2 ≤ length zs → body_text (answer.Outside zs) ≡ codes "OUT " ++ line_rest signed_decimal zs
place_is zs some = ap (λ (l : List ℕ). codes "OUT" ++ l) (append-nil (signed_to_end zs) ∙ signed_is zs (omega (arith, some)))

outside_from : (a : Answer) → Row 79 a → (x : List ℤ) × (body_text a ≡ codes "OUT " ++ line_rest signed_decimal x) × PlaceFits x × (grammar.outside_of x ≡ a)
outside_from (answer.Outside place) good = (place, place_is place good.0.0, (good.0.0, good.0.1, good.0.2), refl)
outside_from a good = absurd (omega (arith, good.1))

outside_good : Good (Row 79) body_text grammar.outside_row
unfolding grammar.outside_row
outside_good =
    good_mapped PlaceFits (λ zs. codes "OUT " ++ line_rest signed_decimal zs) (after (codes "OUT ") (integers 2 (Some 4))) (Row 79) body_text grammar.outside_of
    (good_after (codes "OUT ") PlaceFits (line_rest signed_decimal) (integers 2 (Some 4)) (integers_good 2 (Some 4) (omega arith) (omega arith)))
    (λ zs good. (place_is zs good.0, ((good.0, good.1, good.2), refl))) outside_from

-- ---- YES

abbrev Both : Type 0
Both = ℕ × (List Step × List Step)

abbrev BothFit : Both → Type 0
BothFit x = Within 0 most_number x.0 × (IsWritableRefutation x.1.0 × IsWritableRefutation x.1.1)

abbrev both_text : Both → List ℕ
both_text x = ended_number 10 x.0 ++ (refutation_text x.1.0 ++ refutation_text x.1.1)

abbrev YesFits : ℕ × Entry Both (List Step) → Type 0
YesFits = ForkFits {A = Both} {B = List Step} most_number IsWritableRefutation BothFit

abbrev yes_fork : ℕ × Entry Both (List Step) → List ℕ
yes_fork = fork_text {A = Both} {B = List Step} refutation_text both_text

yes_is : (n : ℕ) (steps : List Step) → body_text (answer.Yes n steps) ≡ codes "YES " ++ (decimal n ++ 10 ∷ refutation_text steps)
yes_is n steps = ap (λ (l : List ℕ). codes "YES " ++ l) (append_assoc (decimal n) (10 ∷ []) (refutation_text steps))

yes_both_is : (n m : ℕ) (l r : List Step) → body_text (answer.YesBoth n m l r) ≡ codes "YES " ++ (decimal n ++ 32 ∷ both_text (m, (l, r)))
yes_both_is n m l r = ap (λ (t : List ℕ). codes "YES " ++ t) (append_assoc (decimal n) (32 ∷ (decimal m ++ 10 ∷ [])) (refutation_text l ++ refutation_text r))

yes_to : (x : ℕ × Entry Both (List Step)) → YesFits x → (body_text (grammar.yes_of x) ≡ codes "YES " ++ yes_fork x) × Row 89 (grammar.yes_of x)
yes_to (n, last steps) good = (yes_is n steps, ((good.0, good.1), refl))
yes_to (n, item x) good = (yes_both_is n x.0 x.1.0 x.1.1, ((good.0, good.1.0.1, good.1.1.0, good.1.1.1), refl))

yes_from : (a : Answer) → Row 89 a → (x : ℕ × Entry Both (List Step)) × (body_text a ≡ codes "YES " ++ yes_fork x) × YesFits x × (grammar.yes_of x ≡ a)
yes_from (answer.Yes n steps) good = ((n, last steps), yes_is n steps, (good.0.0, good.0.1), refl)
yes_from (answer.YesBoth n m l r) good = ((n, item (m, (l, r))), yes_both_is n m l r, (good.0.0, ((omega arith, good.0.1), (good.0.2, good.0.3))), refl)
yes_from a good = absurd (omega (arith, good.1))

both_good : Good BothFit both_text grammar.right_and_refutations
unfolding grammar.right_and_refutations
both_good =
    good_both (Within 0 most_number) (ended_number 10) (number 0 most_number 10)
    (λ (p : List Step × List Step). IsWritableRefutation p.0 × IsWritableRefutation p.1) (λ p. refutation_text p.0 ++ refutation_text p.1) (both grammar.refutation grammar.refutation)
    (good_number 0 most_number 10 (omega arith) (omega arith) (omega arith) refl)
    (good_both IsWritableRefutation refutation_text grammar.refutation IsWritableRefutation refutation_text grammar.refutation refutation_good refutation_good)

yes_good : Good (Row 89) body_text grammar.yes_row
unfolding grammar.yes_row
yes_good =
    good_mapped YesFits (λ x. codes "YES " ++ yes_fork x) (after (codes "YES ") (forked most_number grammar.refutation grammar.right_and_refutations)) (Row 89) body_text grammar.yes_of
    (good_after (codes "YES ") YesFits yes_fork (forked most_number grammar.refutation grammar.right_and_refutations)
    (good_forked IsWritableRefutation refutation_text grammar.refutation BothFit both_text grammar.right_and_refutations refutation_good both_good most_number (omega arith)))
    yes_to yes_from

-- ---- NO

abbrev NoFits : (Side × (List ℕ × ℕ)) × List ℕ → Type 0
NoFits x = SidedFits x.0 × NumbersFit x.1

abbrev no_rest : (Side × (List ℕ × ℕ)) × List ℕ → List ℕ
no_rest x = sided_rest x.0 ++ (codes "conf " ++ numbers_rest x.1)

no_is : (s : Side) (ps : List ℕ) (q : ℕ) (symbols : List ℕ) → SidedFits (s, (ps, q)) → 1 ≤ length symbols
    → body_text (answer.No s ps q symbols) ≡ codes "NO " ++ no_rest ((s, (ps, q)), symbols)
no_is s ps q symbols good some =
    ap (λ (l : List ℕ). codes "NO" ++ (l ++ (codes "conf" ++ numbers_to_end symbols))) (sided_is (s, (ps, q)) good)
    ∙ ap (λ (l : List ℕ). codes "NO " ++ (sided_rest (s, (ps, q)) ++ (codes "conf" ++ l))) (numbers_is symbols some)

no_from : (a : Answer) → Second 78 32 a → (x : (Side × (List ℕ × ℕ)) × List ℕ) × (tail_text 2 a ≡ codes " " ++ no_rest x) × NoFits x × (grammar.no_of x ≡ a)
no_from (answer.No s ps q symbols) good =
    let fits : SidedFits (s, (ps, q)) = (good.0.0.0, good.0.0.1, good.0.0.2, good.0.0.3) in
    (((s, (ps, q)), symbols), ap (λ (l : List ℕ). drop 2 l) (no_is s ps q symbols fits good.0.0.4.0), (fits, (good.0.0.4.0, tt, good.0.0.4.1)), refl)
no_from a good = absurd (omega (arith, good.1))

no_good : Good (Second 78 32) (tail_text 2) grammar.no_row
unfolding grammar.no_row
no_good =
    let conf = after (codes "conf ") (numbers 1 None) in
    good_mapped NoFits (λ x. codes " " ++ no_rest x) (after (codes " ") (both grammar.side_and_periods conf)) (Second 78 32) (tail_text 2) grammar.no_of
    (good_after (codes " ") NoFits no_rest (both grammar.side_and_periods conf)
    (good_both SidedFits sided_rest grammar.side_and_periods NumbersFit (λ ns. codes "conf " ++ numbers_rest ns) conf sides_good
    (good_after (codes "conf ") NumbersFit numbers_rest (numbers 1 None) line_good)))
    (λ x good. (ap (λ (l : List ℕ). drop 2 l) (no_is x.0.0 x.0.1.0 x.0.1.1 x.1 good.0 good.1.0), (((good.0.0, good.0.1, good.0.2, good.0.3, (good.1.0, good.1.2)), refl), refl))) no_from

-- ---- UNKNOWN and LIST

unknown_is : (r : Reason) → body_text (answer.Unknown r) ≡ codes "UNKNOWN " ++ reason_line r
unknown_is r = ap (λ (l : List ℕ). codes "UNKNOWN " ++ l) (append-nil (reason_line r))

unknown_from : (a : Answer) → Row 85 a → (x : Reason) × (body_text a ≡ codes "UNKNOWN " ++ reason_line x) × Unit {0} × (grammar.unknown_of x ≡ a)
unknown_from (answer.Unknown r) good = (r, unknown_is r, tt, refl)
unknown_from a good = absurd (omega (arith, good.1))

unknown_good : Good (Row 85) body_text grammar.unknown_row
unfolding grammar.unknown_row
unknown_good =
    good_mapped anything (λ r. codes "UNKNOWN " ++ reason_line r) (after (codes "UNKNOWN ") grammar.reason_word) (Row 85) body_text grammar.unknown_of
    (good_after (codes "UNKNOWN ") anything reason_line grammar.reason_word reason_good)
    (λ r good. (unknown_is r, (tt, refl))) unknown_from

abbrev PatternsFit : List Listed → Type 0
PatternsFit = CountedIn IsWritablePattern 0 most_number

list_is : (ps : List Listed) → body_text (answer.List ps) ≡ codes "LIST " ++ counted_text pattern_text ps
list_is ps = ap (λ (l : List ℕ). codes "LIST " ++ l) (append_assoc (decimal (length ps)) (10 ∷ []) (further_lines (answer.List ps)))

list_from : (a : Answer) → Second 76 73 a → (x : List Listed) × (tail_text 1 a ≡ codes "IST " ++ counted_text pattern_text x) × PatternsFit x × (grammar.list_of x ≡ a)
list_from (answer.List ps) good = (ps, ap (λ (l : List ℕ). drop 1 l) (list_is ps), (omega arith, good.0.0.0, good.0.0.1), refl)
list_from a good = absurd (omega (arith, good.1))

list_good : Good (Second 76 73) (tail_text 1) grammar.list_row
unfolding grammar.list_row
list_good =
    good_mapped PatternsFit (λ ps. codes "IST " ++ counted_text pattern_text ps) (after (codes "IST ") (counted 0 most_number grammar.pattern)) (Second 76 73) (tail_text 1) grammar.list_of
    (good_after (codes "IST ") PatternsFit (counted_text pattern_text) (counted 0 most_number grammar.pattern)
    (good_counted IsWritablePattern pattern_text grammar.pattern 0 most_number (omega arith) (omega arith) (omega arith) pattern_good))
    (λ ps good. (ap (λ (l : List ℕ). drop 1 l) (list_is ps), (((good.1, good.2), refl), refl))) list_from

-- ---- DENSITY, EMPTY and BOUND

abbrev PotentialsFit : List ℤ → Type 0
PotentialsFit = LineFits IsWritableSigned 1 None

abbrev DensityFits : (ℕ × ℕ) × (List ℕ × List ℤ) → Type 0
DensityFits x = FractionFits x.0 × (CycleFits x.1.0 × PotentialsFit x.1.1)

abbrev density_rest : (ℕ × ℕ) × (List ℕ × List ℤ) → List ℕ
density_rest x = fraction_text x.0 ++ (codes "cycle " ++ (cycle_text x.1.0 ++ (codes "potentials " ++ line_rest signed_decimal x.1.1)))

density_is : (p q : ℕ) (cycle : List ℕ) (zs : List ℤ) → 1 ≤ length zs → body_text (answer.Density p q cycle zs) ≡ codes "DENSITY " ++ density_rest ((p, q), (cycle, zs))
density_is p q cycle zs some =
    ap (λ (l : List ℕ). codes "DENSITY " ++ (fraction_to_end p q ++ (codes "cycle " ++ l)))
    (sym (append_assoc (decimal (length cycle)) (numbers_to_end cycle) (codes "potentials" ++ signed_to_end zs))
    ∙ ap (λ (l : List ℕ). cycle_text cycle ++ (codes "potentials" ++ l)) (signed_is zs some))

density_from : (a : Answer) → Row 68 a → (x : (ℕ × ℕ) × (List ℕ × List ℤ)) × (body_text a ≡ codes "DENSITY " ++ density_rest x) × DensityFits x × (grammar.density_of x ≡ a)
density_from (answer.Density p q cycle zs) good =
    (((p, q), (cycle, zs)), density_is p q cycle zs good.0.4, (((omega arith, good.0.0), good.0.1), ((good.0.3.0, good.0.2, good.0.3.1), (good.0.4, tt, good.0.5))), refl)
density_from a good = absurd (omega (arith, good.1))

states_good : Good (λ (x : List ℕ × List ℤ). CycleFits x.0 × PotentialsFit x.1) (λ x. codes "cycle " ++ (cycle_text x.0 ++ (codes "potentials " ++ line_rest signed_decimal x.1))) grammar.cycle_and_potentials
unfolding grammar.cycle_and_potentials
states_good =
    let potentials = after (codes "potentials ") (integers 1 None) in
    good_after (codes "cycle ") (λ (x : List ℕ × List ℤ). CycleFits x.0 × PotentialsFit x.1) (λ x. cycle_text x.0 ++ (codes "potentials " ++ line_rest signed_decimal x.1)) (both grammar.cycle potentials)
    (good_both CycleFits cycle_text grammar.cycle PotentialsFit (λ zs. codes "potentials " ++ line_rest signed_decimal zs) potentials cycle_good
    (good_after (codes "potentials ") PotentialsFit (line_rest signed_decimal) (integers 1 None) (integers_good 1 None (omega arith) tt)))

density_good : Good (Row 68) body_text grammar.density_row
unfolding grammar.density_row
density_good =
    good_mapped DensityFits (λ x. codes "DENSITY " ++ density_rest x) (after (codes "DENSITY ") (both grammar.fraction grammar.cycle_and_potentials)) (Row 68) body_text grammar.density_of
    (good_after (codes "DENSITY ") DensityFits density_rest (both grammar.fraction grammar.cycle_and_potentials)
    (good_both FractionFits fraction_text grammar.fraction (λ (x : List ℕ × List ℤ). CycleFits x.0 × PotentialsFit x.1)
    (λ x. codes "cycle " ++ (cycle_text x.0 ++ (codes "potentials " ++ line_rest signed_decimal x.1))) grammar.cycle_and_potentials fraction_good states_good))
    (λ x good. (density_is x.0.0 x.0.1 x.1.0 x.1.1 good.1.1.0, ((good.0.0.1, good.0.1, good.1.0.1, (good.1.0.0, good.1.0.2), good.1.1.0, good.1.1.2), refl))) density_from

empty_is : (ns : List ℕ) → 1 ≤ length ns → body_text (answer.Empty ns) ≡ codes "EMPTY\nranks " ++ numbers_rest ns
empty_is ns some = ap (λ (l : List ℕ). codes "EMPTY\nranks" ++ l) (numbers_is ns some)

empty_from : (a : Answer) → Row 69 a → (x : List ℕ) × (body_text a ≡ codes "EMPTY\nranks " ++ numbers_rest x) × NumbersFit x × (grammar.empty_of x ≡ a)
empty_from (answer.Empty ns) good = (ns, empty_is ns good.0.0, (good.0.0, tt, good.0.1), refl)
empty_from a good = absurd (omega (arith, good.1))

empty_good : Good (Row 69) body_text grammar.empty_row
unfolding grammar.empty_row
empty_good =
    good_mapped NumbersFit (λ ns. codes "EMPTY\nranks " ++ numbers_rest ns) (after (codes "EMPTY\nranks ") (numbers 1 None)) (Row 69) body_text grammar.empty_of
    (good_after (codes "EMPTY\nranks ") NumbersFit numbers_rest (numbers 1 None) line_good)
    (λ ns good. (empty_is ns good.0, ((good.0, good.2), refl))) empty_from

abbrev BoundFits : (ℕ × ℕ) × (ℕ × (List ℕ × List ℕ)) → Type 0
BoundFits x = FractionFits x.0 × (Within 1 most_number x.1.0 × (All IsWritableNumber x.1.1.0 × NumbersFit x.1.1.1))

abbrev bound_rest : (ℕ × ℕ) × (ℕ × (List ℕ × List ℕ)) → List ℕ
bound_rest x = fraction_text x.0 ++ (codes "denominator " ++ (ended_number 10 x.1.0 ++ (codes "amounts" ++ (numbers_to_end x.1.1.0 ++ (codes "duals " ++ numbers_rest x.1.1.1)))))

bound_is : (p q c : ℕ) (amounts duals : List ℕ) → 1 ≤ length duals → body_text (answer.Bound p q c amounts duals) ≡ codes "BOUND " ++ bound_rest ((p, q), (c, (amounts, duals)))
bound_is p q c amounts duals some =
    ap (λ (l : List ℕ). codes "BOUND " ++ (fraction_to_end p q ++ (codes "denominator " ++ (ended_number 10 c ++ (codes "amounts" ++ (numbers_to_end amounts ++ (codes "duals" ++ l)))))))
    (numbers_is duals some)

bound_from : (a : Answer) → Second 66 79 a → (x : (ℕ × ℕ) × (ℕ × (List ℕ × List ℕ))) × (tail_text 1 a ≡ codes "OUND " ++ bound_rest x) × BoundFits x × (grammar.bound_of x ≡ a)
bound_from (answer.Bound p q c amounts duals) good = (
  ((p, q), (c, (amounts, duals))),
  ap (λ (l : List ℕ). drop 1 l) (bound_is p q c amounts duals good.0.0.4.0),
  (((omega arith, good.0.0.0), good.0.0.1), (good.0.0.2, (good.0.0.3, (good.0.0.4.0, tt, good.0.0.4.1)))),
  refl,
)
bound_from a good = absurd (omega (arith, good.1))

abbrev DualsFit : List ℕ × List ℕ → Type 0
DualsFit x = All IsWritableNumber x.0 × NumbersFit x.1

abbrev duals_rest : List ℕ × List ℕ → List ℕ
duals_rest x = numbers_to_end x.0 ++ (codes "duals " ++ numbers_rest x.1)

duals_good : Good DualsFit (λ x. codes "amounts" ++ duals_rest x) grammar.amounts_and_duals
unfolding grammar.amounts_and_duals
duals_good =
    let duals = after (codes "duals ") (numbers 1 None) in
    good_after (codes "amounts") DualsFit duals_rest (both grammar.amounts duals)
    (good_both (All IsWritableNumber) numbers_to_end grammar.amounts NumbersFit (λ ns. codes "duals " ++ numbers_rest ns) duals amounts_good
    (good_after (codes "duals ") NumbersFit numbers_rest (numbers 1 None) line_good))

bound_good : Good (Second 66 79) (tail_text 1) grammar.bound_row
unfolding grammar.bound_row
bound_good =
    let common = after (codes "denominator ") (both (number 1 most_number 10) grammar.amounts_and_duals) in
    let G : ℕ × (List ℕ × List ℕ) → Type 0 = λ x. Within 1 most_number x.0 × DualsFit x.1 in
    let u : ℕ × (List ℕ × List ℕ) → List ℕ = λ x. ended_number 10 x.0 ++ (codes "amounts" ++ duals_rest x.1) in
    good_mapped BoundFits (λ x. codes "OUND " ++ bound_rest x) (after (codes "OUND ") (both grammar.fraction common)) (Second 66 79) (tail_text 1) grammar.bound_of
    (good_after (codes "OUND ") BoundFits bound_rest (both grammar.fraction common)
    (good_both FractionFits fraction_text grammar.fraction G (λ x. codes "denominator " ++ u x) common fraction_good
    (good_after (codes "denominator ") G u (both (number 1 most_number 10) grammar.amounts_and_duals)
    (good_both (Within 1 most_number) (ended_number 10) (number 1 most_number 10) DualsFit (λ x. codes "amounts" ++ duals_rest x) grammar.amounts_and_duals
    (good_number 1 most_number 10 (omega arith) (omega arith) (omega arith) refl) duals_good))))
    (λ x good. (
      ap (λ (l : List ℕ). drop 1 l) (bound_is x.0.0 x.0.1 x.1.0 x.1.1.0 x.1.1.1 good.1.1.1.0),
      (((good.0.0.1, good.0.1, good.1.0, good.1.1.0, (good.1.1.1.0, good.1.1.1.2)), refl), refl),
    )) bound_from

-- ---- MINIMAL

abbrev StarredFit : List Starred → Type 0
StarredFit = CountedIn IsWritableStarred 0 most_number

minimal_is : (ps : List Starred) → body_text (answer.Minimal ps) ≡ codes "MINIMAL " ++ counted_text starred_text ps
minimal_is ps = ap (λ (l : List ℕ). codes "MINIMAL " ++ l) (append_assoc (decimal (length ps)) (10 ∷ []) (further_lines (answer.Minimal ps)))

minimal_from : (a : Answer) → Row 77 a → (x : List Starred) × (body_text a ≡ codes "MINIMAL " ++ counted_text starred_text x) × StarredFit x × (grammar.minimal_of x ≡ a)
minimal_from (answer.Minimal ps) good = (ps, minimal_is ps, (omega arith, good.0.0, good.0.1), refl)
minimal_from a good = absurd (omega (arith, good.1))

minimal_good : Good (Row 77) body_text grammar.minimal_row
unfolding grammar.minimal_row
minimal_good =
    good_mapped StarredFit (λ ps. codes "MINIMAL " ++ counted_text starred_text ps) (after (codes "MINIMAL ") (counted 0 most_number grammar.starred)) (Row 77) body_text grammar.minimal_of
    (good_after (codes "MINIMAL ") StarredFit (counted_text starred_text) (counted 0 most_number grammar.starred)
    (good_counted IsWritableStarred starred_text grammar.starred 0 most_number (omega arith) (omega arith) (omega arith) starred_good))
    (λ ps good. (minimal_is ps, ((good.1, good.2), refl))) minimal_from

-- ---- kinds whose texts begin alike

no_shared : (a : Answer) → Row 78 a → (body_text a ≡ codes "NO" ++ tail_text 2 a) × Either 78 78 32 a
no_shared (answer.No side periods shear symbols) good = (refl, inr (good, refl))
no_shared (answer.Nothing steps) good = (refl, inl (good, refl))
no_shared a good = absurd (omega (arith, good.1))

no_next : (a : Answer) → Row 78 a → (more : List ℕ) × (tail_text 2 a ≡ second_of a ∷ more)
no_next (answer.No s ps q symbols) good =
    let is = no_is s ps q symbols (good.0.0, good.0.1, good.0.2, good.0.3) good.0.4.0 in
    (no_rest ((s, (ps, q)), symbols), ap (λ (l : List ℕ). drop 2 l) is)
no_next (answer.Nothing steps) good = (drop 3 (body_text (answer.Nothing steps)), refl)
no_next a good = absurd (omega (arith, good.1))

no_or_nothing_good : Good (Row 78) body_text grammar.no_or_nothing
unfolding grammar.no_or_nothing
no_or_nothing_good = good_front (codes "NO") 2 78 78 32 grammar.nothing_row grammar.no_row refl nothing_good no_good no_shared no_next

list_shared : (a : Answer) → Row 76 a → (body_text a ≡ codes "L" ++ tail_text 1 a) × Either 76 69 73 a
list_shared (answer.List patterns) good = (refl, inr (good, refl))
list_shared (answer.Least weight symbols steps) good = (refl, inl (good, refl))
list_shared a good = absurd (omega (arith, good.1))

list_next : (a : Answer) → Row 76 a → (more : List ℕ) × (tail_text 1 a ≡ second_of a ∷ more)
list_next (answer.List patterns) good = (drop 2 (body_text (answer.List patterns)), refl)
list_next (answer.Least weight symbols steps) good = (drop 2 (body_text (answer.Least weight symbols steps)), refl)
list_next a good = absurd (omega (arith, good.1))

list_or_least_good : Good (Row 76) body_text grammar.list_or_least
unfolding grammar.list_or_least
list_or_least_good = good_front (codes "L") 1 76 69 73 grammar.least_row grammar.list_row refl least_good list_good list_shared list_next

bound_shared : (a : Answer) → Row 66 a → (body_text a ≡ codes "B" ++ tail_text 1 a) × Either 66 82 79 a
bound_shared (answer.Bound numerator denominator common amounts duals) good = (refl, inr (good, refl))
bound_shared (answer.Broken part periods shear symbols) good = (refl, inl (good, refl))
bound_shared a good = absurd (omega (arith, good.1))

bound_next : (a : Answer) → Row 66 a → (more : List ℕ) × (tail_text 1 a ≡ second_of a ∷ more)
bound_next (answer.Bound numerator denominator common amounts duals) good = (drop 2 (body_text (answer.Bound numerator denominator common amounts duals)), refl)
bound_next (answer.Broken part periods shear symbols) good = (drop 2 (body_text (answer.Broken part periods shear symbols)), refl)
bound_next a good = absurd (omega (arith, good.1))

bound_or_broken_good : Good (Row 66) body_text grammar.bound_or_broken
unfolding grammar.bound_or_broken
bound_or_broken_good = good_front (codes "B") 1 66 82 79 grammar.broken_row grammar.bound_row refl broken_good bound_good bound_shared bound_next

-- ---- the table

abbrev later_rows : List (ℕ × Form Answer)
later_rows = (89, grammar.yes_row) ∷ (78, grammar.no_or_nothing) ∷ (85, grammar.unknown_row) ∷ (76, grammar.list_or_least) ∷ (68, grammar.density_row) ∷ (69, grammar.empty_row)
    ∷ (66, grammar.bound_or_broken) ∷ (77, grammar.minimal_row) ∷ (67, grammar.conjugate_row) ∷ (73, grammar.inside_row) ∷ []

all_kinds : (a : Answer) → is_among (first_of a) (79, grammar.outside_row) later_rows ≡ true
all_kinds answer.Inside = refl
all_kinds (answer.Outside place) = refl
all_kinds (answer.Yes radius steps) = refl
all_kinds (answer.YesBoth left right left_steps right_steps) = refl
all_kinds (answer.No side periods shear symbols) = refl
all_kinds (answer.Unknown reason) = refl
all_kinds (answer.List patterns) = refl
all_kinds (answer.Density numerator denominator cycle potentials) = refl
all_kinds (answer.Empty ranks) = refl
all_kinds (answer.Bound numerator denominator common amounts duals) = refl
all_kinds (answer.Minimal patterns) = refl
all_kinds (answer.Conjugate radii steps) = refl
all_kinds (answer.Broken part periods shear symbols) = refl
all_kinds (answer.Least weight symbols steps) = refl
all_kinds (answer.Nothing steps) = refl

pub answer_good : Good IsWritable body_text grammar.answer_form
unfolding grammar.answer_form
answer_good =
    good_same (λ a. IsWritable a × (is_among (first_of a) (79, grammar.outside_row) later_rows ≡ true)) body_text (table (79, grammar.outside_row) later_rows) IsWritable body_text
    (good_table IsWritable first_of body_text first_is (79, grammar.outside_row) later_rows refl
    (outside_good, (yes_good, (no_or_nothing_good, (unknown_good, (list_or_least_good, (density_good, (empty_good, (bound_or_broken_good, (minimal_good, (conjugate_good, inside_good)))))))))))
    (λ a good. (refl, good.0)) (λ a good. (refl, (good, all_kinds a)))
