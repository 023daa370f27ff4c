-- The laws of the answers CONJUGATE and BROKEN.
use Rattle.std.proofs.Common.{◌≡◌, ℕ, ◌≤◌, List, [], ◌∷◌, ◌++◌, length, Some, None, refl, sym, ap, ◌∙◌, append_assoc, arith}
use Rattle.std.specs.{Prelude.codes, Fmt.decimal, List.flat_map}
use Rattle.dd_derivation.specs.declared.step.Step.{Step}
use Rattle.dd_certificate.specs.{declared.answer.Answer.Answer, Text.numbers_to_end, Text.refutation_text}
use Rattle.dd_certificate.specs.Bounds.{IsWritableNumber, IsWritableRefutation}
use Rattle.dd_output.specs.reading.{Forms.number, Forms.both, Forms.after, Forms.times, Lists.numbers}
use Rattle.dd_output.specs.reading.Periods.{periods}
use Rattle.dd_output.proofs.{Lines.LineFits, Lines.numbers_good, Steps.refutation_good}
use Rattle.dd_output.proofs.Periods.{PeriodsFit, periods_rest, periods_good}
use Rattle.dd_output.proofs.Forms.{Good, good_mapped, good_number, good_both, good_after, good_times, TimesFit, Within, ended_number}
use Rattle.dd_output.proofs.Rows.{NumbersFit, numbers_rest, line_good, numbers_is, periods_is}
use Rattle.dd_output.proofs.FirstBytes.{body_text, Row, Second, tail_text}
use Rattle.dd_certificate.specs.declared.answer.Answer.TheVariants as answer
use Rattle.dd_output.specs.reading.Grammar as grammar

-- ---- CONJUGATE

abbrev RadiiFit : List ℕ → Type 0
RadiiFit = LineFits IsWritableNumber 4 (Some 4)

abbrev StepsFit : List (List Step) → Type 0
StepsFit = TimesFit IsWritableRefutation 4

abbrev ConjugateFits : List ℕ × List (List Step) → Type 0
ConjugateFits x = RadiiFit x.0 × StepsFit x.1

abbrev conjugate_rest : List ℕ × List (List Step) → List ℕ
conjugate_rest x = numbers_rest x.0 ++ flat_map refutation_text x.1

conjugate_is : (radii : List ℕ) (steps : List (List Step)) → 1 ≤ length radii → body_text (answer.Conjugate radii steps) ≡ codes "CONJUGATE " ++ conjugate_rest (radii, steps)
conjugate_is radii steps some = ap (λ (l : List ℕ). codes "CONJUGATE" ++ (l ++ flat_map refutation_text steps)) (numbers_is radii some)

conjugate_from : (a : Answer) → Row 67 a → (x : List ℕ × List (List Step)) × (body_text a ≡ codes "CONJUGATE " ++ conjugate_rest x) × ConjugateFits x × (grammar.conjugate_of x ≡ a)
conjugate_from (answer.Conjugate radii steps) good =
    let long : length radii ≡ 4 = good.0.0 in
    ((radii, steps), conjugate_is radii steps (omega (arith, long)), ((omega (arith, long), omega (arith, long), good.0.1), (good.0.2, good.0.3)), refl)
conjugate_from a good = absurd (omega (arith, good.1))

pub conjugate_good : Good (Row 67) body_text grammar.conjugate_row
unfolding grammar.conjugate_row
conjugate_good =
    good_mapped ConjugateFits (λ x. codes "CONJUGATE " ++ conjugate_rest x) (after (codes "CONJUGATE ") (both (numbers 4 (Some 4)) (times 4 grammar.refutation))) (Row 67) body_text grammar.conjugate_of
    (good_after (codes "CONJUGATE ") ConjugateFits conjugate_rest (both (numbers 4 (Some 4)) (times 4 grammar.refutation))
    (good_both RadiiFit numbers_rest (numbers 4 (Some 4)) StepsFit (flat_map refutation_text) (times 4 grammar.refutation)
    (numbers_good 4 (Some 4) (omega arith) (omega arith)) (good_times IsWritableRefutation refutation_text grammar.refutation 4 refutation_good)))
    (λ x good. (conjugate_is x.0 x.1 (omega (arith, good.0.0)), ((omega (arith, good.0.0, good.0.1), good.0.2, good.1.0, good.1.1), refl))) conjugate_from

-- ---- BROKEN

abbrev BrokenFits : ℕ × ((List ℕ × ℕ) × List ℕ) → Type 0
BrokenFits x = Within 1 4 x.0 × (PeriodsFit x.1.0 × NumbersFit x.1.1)

abbrev conf_text : List ℕ → List ℕ
conf_text symbols = codes "conf " ++ numbers_rest symbols

abbrev broken_rest : ℕ × ((List ℕ × ℕ) × List ℕ) → List ℕ
broken_rest x = ended_number 32 x.0 ++ (periods_rest x.1.0 ++ conf_text x.1.1)

broken_is : (k : ℕ) (ps : List ℕ) (q : ℕ) (symbols : List ℕ) → 1 ≤ length ps → 1 ≤ length symbols
    → tail_text 1 (answer.Broken k ps q symbols) ≡ codes "ROKEN " ++ broken_rest (k, ((ps, q), symbols))
broken_is k ps q symbols some many =
    ap (λ (l : List ℕ). codes "ROKEN " ++ ((decimal k ++ l) ++ (codes "conf" ++ numbers_to_end symbols))) (periods_is ps q some)
    ∙ (ap (λ (l : List ℕ). codes "ROKEN " ++ ((decimal k ++ 32 ∷ periods_rest (ps, q)) ++ (codes "conf" ++ l))) (numbers_is symbols many)
    ∙ ap (λ (l : List ℕ). codes "ROKEN " ++ l)
    (append_assoc (decimal k) (32 ∷ periods_rest (ps, q)) (conf_text symbols) ∙ sym (append_assoc (decimal k) (32 ∷ []) (periods_rest (ps, q) ++ conf_text symbols))))

broken_from : (a : Answer) → Second 66 82 a → (x : ℕ × ((List ℕ × ℕ) × List ℕ)) × (tail_text 1 a ≡ codes "ROKEN " ++ broken_rest x) × BrokenFits x × (grammar.broken_of x ≡ a)
broken_from (answer.Broken k ps q symbols) good =
    let fits : PeriodsFit (ps, q) = (good.0.0.1.0, good.0.0.1.1, good.0.0.1.2, good.0.0.1.3) in
    ((k, ((ps, q), symbols)), broken_is k ps q symbols fits.1.0 good.0.0.1.4.0, (good.0.0.0, (fits, (good.0.0.1.4.0, tt, good.0.0.1.4.1))), refl)
broken_from a good = absurd (omega (arith, good.1))

pub broken_good : Good (Second 66 82) (tail_text 1) grammar.broken_row
unfolding grammar.broken_row
broken_good =
    let conf = after (codes "conf ") (numbers 1 None) in
    let G : (List ℕ × ℕ) × List ℕ → Type 0 = λ x. PeriodsFit x.0 × NumbersFit x.1 in
    let u : (List ℕ × ℕ) × List ℕ → List ℕ = λ x. periods_rest x.0 ++ conf_text x.1 in
    good_mapped BrokenFits (λ x. codes "ROKEN " ++ broken_rest x) (after (codes "ROKEN ") (both (number 1 4 32) (both periods conf))) (Second 66 82) (tail_text 1) grammar.broken_of
    (good_after (codes "ROKEN ") BrokenFits broken_rest (both (number 1 4 32) (both periods conf))
    (good_both (Within 1 4) (ended_number 32) (number 1 4 32) G u (both periods conf)
    (good_number 1 4 32 (omega arith) (omega arith) (omega arith) refl)
    (good_both PeriodsFit periods_rest periods NumbersFit conf_text conf periods_good (good_after (codes "conf ") NumbersFit numbers_rest (numbers 1 None) line_good))))
    (λ x good. (
      broken_is x.0 x.1.0.0 x.1.0.1 x.1.1 good.1.0.1.0 good.1.1.0,
      (((good.0, (good.1.0.0, good.1.0.1, good.1.0.2, good.1.0.3, (good.1.1.0, good.1.1.2))), refl), refl),
    )) broken_from
