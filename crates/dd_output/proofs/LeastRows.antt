-- The laws of the answers LEAST and NONE.
use Rattle.std.proofs.Common.{◌≡◌, ℕ, ◌≤◌, List, [], ◌∷◌, ◌++◌, length, None, false, inl, inr, ◌⊎◌, refl, sym, ap, ◌∙◌, append_assoc, arith}
use Rattle.std.proofs.lemmas.{Bool.ne_eqb, Fmt.decimal_digit, List.append-nil}
use Rattle.std.specs.{Prelude.codes, Prelude.◌==◌, Prelude.if◌then◌else◌, Fmt.decimal}
use Rattle.dd_derivation.specs.declared.step.Step.{Step}
use Rattle.dd_certificate.specs.{declared.answer.Answer.Answer, Text.refutation_text}
use Rattle.dd_certificate.specs.Bounds.{most_number, IsWritableNumber, IsWritableRefutation, IsWritableBelow}
use Rattle.dd_output.specs.reading.{Forms.number, Forms.both, Forms.after, Forms.either, Lists.numbers}
use Rattle.dd_output.proofs.{Signs.first_digit, Steps.refutation_good}
use Rattle.dd_output.proofs.Forms.{Good, good_same, good_mapped, good_number, good_both, good_after, good_either, Within, ended_number}
use Rattle.dd_output.proofs.{Rows.NumbersFit, Rows.numbers_rest, Rows.line_good, Rows.numbers_is, FirstBytes.Second, FirstBytes.tail_text}
use Rattle.dd_certificate.specs.declared.answer.Answer.TheVariants as answer
use Rattle.dd_output.specs.reading.Grammar as grammar

-- ---- LEAST

abbrev Weighed : Type 0
Weighed = ℕ × (List ℕ × List Step)

abbrev WeighedFits : Weighed → Type 0
WeighedFits x = IsWritableNumber x.0 × (NumbersFit x.1.0 × IsWritableBelow x.0 x.1.1)

abbrev below_text : ℕ → List Step → List ℕ
below_text n steps = if n == 0 then [] else refutation_text steps

abbrev conf_lines : Weighed → List ℕ
conf_lines x = codes "conf " ++ (numbers_rest x.1.0 ++ below_text x.0 x.1.1)

abbrev weighed_rest : Weighed → List ℕ
weighed_rest x = decimal x.0 ++ 10 ∷ conf_lines x

abbrev IsZero : Weighed → Type 0
IsZero x = (x.0 ≡ 0) × (NumbersFit x.1.0 × (x.1.1 ≡ []))

abbrev IsSome : Weighed → Type 0
IsSome x = Within 1 most_number x.0 × (NumbersFit x.1.0 × IsWritableRefutation x.1.1)

zero_is : (ns : List ℕ) → weighed_rest (grammar.zero_of ns) ≡ codes "0\nconf " ++ numbers_rest ns
zero_is ns =
    ap (λ (l : List ℕ). l ++ 10 ∷ conf_lines (grammar.zero_of ns)) (decimal_digit 0 (omega arith))
    ∙ ap (λ (l : List ℕ). codes "0\nconf " ++ l) (append-nil (numbers_rest ns))

zero_from : (x : Weighed) → IsZero x → grammar.zero_of x.1.0 ≡ x
zero_from (n, (ns, steps)) good = rw (good.0, good.1.1) refl

zero_good : Good IsZero weighed_rest grammar.zero_weight
unfolding grammar.zero_weight
zero_good =
    good_mapped NumbersFit (λ ns. codes "0\nconf " ++ numbers_rest ns) (after (codes "0\nconf ") (numbers 1 None)) IsZero weighed_rest grammar.zero_of
    (good_after (codes "0\nconf ") NumbersFit numbers_rest (numbers 1 None) line_good)
    (λ ns good. (zero_is ns, (refl, (good, refl))))
    (λ x good. (x.1.0, ap weighed_rest (sym (zero_from x good)) ∙ zero_is x.1.0, good.1.0, zero_from x good))

abbrev some_text : Weighed → List ℕ
some_text x = ended_number 10 x.0 ++ ((codes "conf " ++ numbers_rest x.1.0) ++ refutation_text x.1.1)

some_is : (x : Weighed) → 1 ≤ x.0 → weighed_rest x ≡ some_text x
some_is (n, (ns, steps)) some =
    let said : (n == 0) ≡ false = ne_eqb n 0 (λ e. omega (arith, e, some)) in
    rw said (sym (append_assoc (decimal n) (10 ∷ []) (codes "conf " ++ (numbers_rest ns ++ refutation_text steps))))

some_good : Good IsSome weighed_rest grammar.some_weight
unfolding grammar.some_weight
some_good =
    let conf = after (codes "conf ") (numbers 1 None) in
    good_same IsSome some_text (both (number 1 most_number 10) (both conf grammar.refutation)) IsSome weighed_rest
    (good_both (Within 1 most_number) (ended_number 10) (number 1 most_number 10)
    (λ (x : List ℕ × List Step). NumbersFit x.0 × IsWritableRefutation x.1) (λ x. (codes "conf " ++ numbers_rest x.0) ++ refutation_text x.1) (both conf grammar.refutation)
    (good_number 1 most_number 10 (omega arith) (omega arith) (omega arith) refl)
    (good_both NumbersFit (λ ns. codes "conf " ++ numbers_rest ns) conf IsWritableRefutation refutation_text grammar.refutation
    (good_after (codes "conf ") NumbersFit numbers_rest (numbers 1 None) line_good) refutation_good))
    (λ x good. (some_is x good.0.0, good)) (λ x good. (some_is x good.0.0, good))

zero_first : (x : Weighed) → IsZero x → (more : List ℕ) × (weighed_rest x ≡ 48 ∷ more)
zero_first x good = (10 ∷ conf_lines x, ap (λ (l : List ℕ). l ++ 10 ∷ conf_lines x) (ap decimal good.0 ∙ decimal_digit 0 (omega arith)))

some_first : (x : Weighed) → IsSome x → (b : ℕ) × (more : List ℕ) × (weighed_rest x ≡ b ∷ more) × ((b == 48) ≡ false)
some_first x good =
    let f = first_digit x.0 1 (omega (arith, good.0.1)) (omega arith) good.0.0 in
    (f.first, f.more ++ 10 ∷ conf_lines x, ap (λ (l : List ℕ). l ++ 10 ∷ conf_lines x) f.is, ne_eqb f.first 48 (λ is. omega (arith, is, f.low)))

weighed_to : (x : Weighed) → IsZero x ⊎ IsSome x → WeighedFits x
weighed_to x (inl good) = (omega (arith, good.0), (good.1.0, inl (good.0, good.1.1)))
weighed_to x (inr good) = (good.0.1, (good.1.0, inr (good.0.0, good.1.1)))

to_weighed : (n : ℕ) (ns : List ℕ) (steps : List Step) → n ≤ most_number → NumbersFit ns → IsWritableBelow n steps → IsZero (n, (ns, steps)) ⊎ IsSome (n, (ns, steps))
to_weighed n ns steps few fits (inl good) = inl (good.0, (fits, good.1))
to_weighed n ns steps few fits (inr good) = inr ((good.0, few), (fits, good.1))

weighed_good : Good WeighedFits weighed_rest (either 48 grammar.zero_weight grammar.some_weight)
weighed_good =
    good_same (λ x. IsZero x ⊎ IsSome x) weighed_rest (either 48 grammar.zero_weight grammar.some_weight) WeighedFits weighed_rest
    (good_either IsZero IsSome weighed_rest 48 grammar.zero_weight grammar.some_weight zero_good some_good zero_first some_first)
    (λ x good. (refl, weighed_to x good)) (λ x good. (refl, to_weighed x.0 x.1.0 x.1.1 good.0 good.1.0 good.1.1))

least_is : (n : ℕ) (ns : List ℕ) (steps : List Step) → 1 ≤ length ns → tail_text 1 (answer.Least n ns steps) ≡ codes "EAST " ++ weighed_rest (n, (ns, steps))
least_is n ns steps some =
    ap (λ (l : List ℕ). codes "EAST " ++ ((decimal n ++ 10 ∷ []) ++ ((codes "conf" ++ l) ++ below_text n steps))) (numbers_is ns some)
    ∙ ap (λ (l : List ℕ). codes "EAST " ++ l) (append_assoc (decimal n) (10 ∷ []) (conf_lines (n, (ns, steps))))

least_from : (a : Answer) → Second 76 69 a → (x : Weighed) × (tail_text 1 a ≡ codes "EAST " ++ weighed_rest x) × WeighedFits x × (grammar.least_of x ≡ a)
least_from (answer.Least n ns steps) good = ((n, (ns, steps)), least_is n ns steps good.0.0.1.0, (good.0.0.0, ((good.0.0.1.0, tt, good.0.0.1.1), good.0.0.2)), refl)
least_from a good = absurd (omega (arith, good.1))

pub least_good : Good (Second 76 69) (tail_text 1) grammar.least_row
unfolding grammar.least_row
least_good =
    good_mapped WeighedFits (λ x. codes "EAST " ++ weighed_rest x) (after (codes "EAST ") (either 48 grammar.zero_weight grammar.some_weight)) (Second 76 69) (tail_text 1) grammar.least_of
    (good_after (codes "EAST ") WeighedFits weighed_rest (either 48 grammar.zero_weight grammar.some_weight) weighed_good)
    (λ x good. (least_is x.0 x.1.0 x.1.1 good.1.0.0, (((good.0, (good.1.0.0, good.1.0.2), good.1.1), refl), refl))) least_from

-- ---- NONE

nothing_from : (a : Answer) → Second 78 78 a → (x : List Step) × (tail_text 2 a ≡ codes "NE\n" ++ refutation_text x) × IsWritableRefutation x × (grammar.nothing_of x ≡ a)
nothing_from (answer.Nothing steps) good = (steps, refl, good.0.0, refl)
nothing_from a good = absurd (omega (arith, good.1))

pub nothing_good : Good (Second 78 78) (tail_text 2) grammar.nothing_row
unfolding grammar.nothing_row
nothing_good =
    good_mapped IsWritableRefutation (λ x. codes "NE\n" ++ refutation_text x) (after (codes "NE\n") grammar.refutation) (Second 78 78) (tail_text 2) grammar.nothing_of
    (good_after (codes "NE\n") IsWritableRefutation refutation_text grammar.refutation refutation_good)
    (λ x good. (refl, ((good, refl), refl))) nothing_from
