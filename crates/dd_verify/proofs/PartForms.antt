-- Certificates for conjugacies: what they contain, that an output can hold them, and that their claims are true.
use Rattle.std.proofs.Common.{◌≡◌, ◌≢◌, ℕ, zero, suc, ◌-◌, Bool, true, false, List, [], ◌∷◌, length, slice_get, Some, None, refl, ap, sym, subst, ◌∙◌, arith}
use Rattle.std.proofs.lemmas.{Bool.false≢true, List.Elements.All-nil, List.Elements.All-cons}
use Rattle.std.specs.{Prelude.◌↔◌, Prelude.slice_index_or, List.All}
use Rattle.dd_derivation.specs.declared.step.Step.{Step}
use Rattle.dd_formula.specs.LocalRule.{LocalRule}
use Rattle.dd_values.specs.{declared.limits.Limits.Limits, Ranges.AreLimits}
use Rattle.dd_boxes.specs.Goals.{GoalOf}
use Rattle.dd_problem.specs.pushing.GoalFacts.{HasGoalFacts}
use Rattle.dd_certificate.specs.declared.answer.{Reason.Reason, Answer.Answer}
use Rattle.dd_certificate.specs.Bounds.{IsWritable, IsWritableNumber, IsWritableRefutation}
use Rattle.dd_question.specs.{Boxes.IsSoundBox, Conjugacies.ConjugacyOf, Conjugacies.parts, Conjugacies.IsPart, Conjugacies.EachPart}
use Rattle.dd_question.specs.lemmas.PartLaws.{part_within}
use Rattle.dd_verify.specs.Evidence.{IsYes, IsNo, IsConjugacyCertificate, conjugate, broken, conjugacy_unknown}
use Rattle.dd_verify.specs.Holding.{ConjugacyClaim, says_conjugate, says_broken, says_no_more}
use Rattle.dd_verify.proofs.{Deciding.nothing_holds, Writable.radius_writable, Writable.no_writable, Claiming.yes_claims}
use Rattle.dd_certificate.specs.declared.answer.Reason.TheVariants as reason
use Rattle.dd_certificate.specs.declared.answer.Answer.TheVariants as answer
use Rattle.dd_certificate.specs.declared.answer.Side.TheVariants as side

-- ---- the questions by their numbers, from 1 to 4

no_more : (c : ConjugacyOf) (k : ℕ) (x : LocalRule) (g : GoalOf) → slice_get (parts c) (suc (suc (suc (suc (suc k)))) - 1) ≡ Some (x, g) → ⊥
no_more c k x g is =
    let at : suc (suc (suc (suc (suc k)))) - 1 ≡ suc (suc (suc (suc k))) = omega arith in
    let none : slice_get (parts c) (suc (suc (suc (suc k)))) ≡ None = refl in
    cc (sym none ∙ (sym (ap (slice_get (parts c)) at) ∙ is))

-- what holds of each question holds of the one with the number k
pub of_part : (P : LocalRule → GoalOf → Type 0) (c : ConjugacyOf) (k : ℕ) (x : LocalRule) (g : GoalOf) → EachPart P c → IsPart c k x g → P x g
of_part P c zero x g each is = absurd (omega (arith, is.0))
of_part P c (suc zero) x g each is = let same : (c.from, c.image) ≡ (x, g) = cc is.1 in subst (λ (p : LocalRule × GoalOf). P p.0 p.1) same each.image
of_part P c (suc (suc zero)) x g each is = let same : (c.to, c.image_back) ≡ (x, g) = cc is.1 in subst (λ (p : LocalRule × GoalOf). P p.0 p.1) same each.image_back
of_part P c (suc (suc (suc zero))) x g each is = let same : (c.from, c.round) ≡ (x, g) = cc is.1 in subst (λ (p : LocalRule × GoalOf). P p.0 p.1) same each.round
of_part P c (suc (suc (suc (suc zero)))) x g each is =
    let same : (c.to, c.round_back) ≡ (x, g) = cc is.1 in subst (λ (p : LocalRule × GoalOf). P p.0 p.1) same each.round_back
of_part P c (suc (suc (suc (suc (suc k))))) x g each is = absurd (no_more c k x g is.1)

-- ---- a NO to one of the questions

abbrev pub BrokenAt : Limits → ConjugacyOf → ℕ → List ℕ → ℕ → List ℕ → Type 0
BrokenAt l c k along shear symbols = (x : LocalRule) × (g : GoalOf) × IsPart c k x g × IsNo l x g along shear symbols

pub broken_of : {l : Limits} {c : ConjugacyOf} {k : ℕ} {along : List ℕ} {shear : ℕ} {symbols : List ℕ} → IsConjugacyCertificate l c (answer.Broken k along shear symbols) →
    BrokenAt l c k along shear symbols
broken_of (broken {x = x} {g = g} is h) = (x, g, is, h)

module _ (l : Limits) (c : ConjugacyOf) (limits : AreLimits l) (sound : EachPart (IsSoundBox l) c) (k : ℕ) (x : LocalRule) (g : GoalOf) (is : IsPart c k x g)
    (along : List ℕ) (shear : ℕ) (symbols : List ℕ) where
  pub broken_fits : IsNo l x g along shear symbols → IsWritable (answer.Broken k along shear symbols)
  broken_fits no_of = ((is.0, part_within c k x g is), no_writable l x g along shear symbols limits (of_part (IsSoundBox l) c k x g sound is).0 no_of side.Whole)

  -- the question with the number k has the premise x and the goal g, so a NO to it is a NO for these two
  pub no_taken : BrokenAt l c k along shear symbols → IsNo l x g along shear symbols
  no_taken told =
      let same : (told.0, told.1) ≡ (x, g) = cc (told.2.1, is.1) in
      subst (λ (p : LocalRule × GoalOf). IsNo l p.0 p.1 along shear symbols) same told.3

-- ---- a YES to each of the questions

abbrev four_of : {A : Type 0} → List A → A → List A
four_of xs d = slice_index_or xs 0 d ∷ slice_index_or xs 1 d ∷ slice_index_or xs 2 d ∷ slice_index_or xs 3 d ∷ []

four : {A : Type 0} (xs : List A) (d : A) → length xs ≡ 4 → xs ≡ four_of xs d
four [] d h = absurd (omega (arith, h))
four (a ∷ []) d h = absurd (omega (arith, h))
four (a ∷ b ∷ []) d h = absurd (omega (arith, h))
four (a ∷ b ∷ e ∷ []) d h = absurd (omega (arith, h))
four (a ∷ b ∷ e ∷ f ∷ []) d h = refl
four (a ∷ b ∷ e ∷ f ∷ g ∷ xs) d h = absurd (omega (arith, h))

all_four : {A : Type 0} (P : A → Type 0) (a b e f : A) → P a → P b → P e → P f → All P (a ∷ b ∷ e ∷ f ∷ [])
all_four P a b e f one two three last =
    All-cons P a (b ∷ e ∷ f ∷ []) one (All-cons P b (e ∷ f ∷ []) two (All-cons P e (f ∷ []) three (All-cons P f [] last (All-nil P))))

-- the radius and the steps with the index k certify a YES; indices start at 0
abbrev pub IsYesAt : Limits → List ℕ → List (List Step) → ℕ → LocalRule → GoalOf → Type 0
IsYesAt l radii steps k x g = IsYes l x g (slice_index_or radii k 0) (slice_index_or steps k [])

abbrev pub IsFitAt : List (List Step) → ℕ → Type 0
IsFitAt steps k = IsWritableRefutation (slice_index_or steps k [])

pub record AreYes (l : Limits) (c : ConjugacyOf) (radii : List ℕ) (steps : List (List Step)) : Type 0 where
  pub radii_four : length radii ≡ 4
  pub steps_four : length steps ≡ 4
  pub image : IsYesAt l radii steps 0 c.from c.image
  pub image_back : IsYesAt l radii steps 1 c.to c.image_back
  pub round : IsYesAt l radii steps 2 c.from c.round
  pub round_back : IsYesAt l radii steps 3 c.to c.round_back

pub each_of : {l : Limits} {c : ConjugacyOf} {radii : List ℕ} {steps : List (List Step)} → IsConjugacyCertificate l c (answer.Conjugate radii steps) → AreYes l c radii steps
each_of (conjugate one two three last) = record { radii_four = refl; steps_four = refl; image = one; image_back = two; round = three; round_back = last }

pub conjugate_of : {l : Limits} {c : ConjugacyOf} {radii : List ℕ} {steps : List (List Step)} → AreYes l c radii steps → IsConjugacyCertificate l c (answer.Conjugate radii steps)
conjugate_of {l = l} {c = c} {radii = radii} {steps = steps} told =
    let one : IsConjugacyCertificate l c (answer.Conjugate (four_of radii 0) (four_of steps [])) = conjugate told.image told.image_back told.round told.round_back in
    subst (λ (ns : List ℕ). IsConjugacyCertificate l c (answer.Conjugate ns steps)) (sym (four radii 0 told.radii_four))
    (subst (λ (ss : List (List Step)). IsConjugacyCertificate l c (answer.Conjugate (four_of radii 0) ss)) (sym (four steps [] told.steps_four)) one)

module _ (l : Limits) (c : ConjugacyOf) (limits : AreLimits l) (sound : EachPart (IsSoundBox l) c) (radii : List ℕ) (steps : List (List Step)) where
  radius_fits : (k : ℕ) (x : LocalRule) (g : GoalOf) → IsSoundBox l x g → IsYesAt l radii steps k x g → IsWritableNumber (slice_index_or radii k 0)
  radius_fits k x g s told = radius_writable l x g (slice_index_or radii k 0) (slice_index_or steps k []) limits s.0 s.1.rule s.1.goal told

  pub conjugate_fits : AreYes l c radii steps → IsFitAt steps 0 → IsFitAt steps 1 → IsFitAt steps 2 → IsFitAt steps 3 → IsWritable (answer.Conjugate radii steps)
  conjugate_fits told one two three last = (
    told.radii_four,
    subst (All IsWritableNumber) (sym (four radii 0 told.radii_four))
        (all_four IsWritableNumber _ _ _ _ (radius_fits 0 c.from c.image sound.image told.image) (radius_fits 1 c.to c.image_back sound.image_back told.image_back)
        (radius_fits 2 c.from c.round sound.round told.round) (radius_fits 3 c.to c.round_back sound.round_back told.round_back)),
    told.steps_four,
    subst (All IsWritableRefutation) (sym (four steps [] told.steps_four)) (all_four IsWritableRefutation _ _ _ _ one two three last),
  )

  -- If the first three questions are answered YES with steps that an output can hold, a test of the fourth YES decides whether the answer is a
  -- certificate that an output can hold.
  pub each_decides : length radii ≡ 4 → length steps ≡ 4 → IsYesAt l radii steps 0 c.from c.image → IsFitAt steps 0 → IsYesAt l radii steps 1 c.to c.image_back → IsFitAt steps 1 →
      IsYesAt l radii steps 2 c.from c.round → IsFitAt steps 2 → (b : Bool) → (b ≡ true) ↔ IsYesAt l radii steps 3 c.to c.round_back → (b ≡ true → IsFitAt steps 3) →
      (b ≡ true) ↔ (IsWritable (answer.Conjugate radii steps) × IsConjugacyCertificate l c (answer.Conjugate radii steps))
  each_decides many as_many one fit_one two fit_two three fit_three b last fit_last = (
    λ h. (let told : AreYes l c radii steps = record { radii_four = many; steps_four = as_many; image = one; image_back = two; round = three; round_back = last.0 h } in
        (conjugate_fits told fit_one fit_two fit_three (fit_last h), conjugate_of told)),
    λ both. last.1 (each_of both.1).round_back,
  )

-- if every certificate passes the test b, and the answer fails it, `false` is the right result: the answer is no certificate
pub lacking : (b : Bool) (P W C : Type 0) → (b ≡ true) ↔ P → b ≡ false → (C → P) → (false ≡ true) ↔ (W × C)
lacking b P W C told fails taken = nothing_holds (W × C) (λ both. false≢true (sym fails ∙ told.1 (taken both.1)))

-- the only reason for UNKNOWN is the limits
reason_of : {l : Limits} {c : ConjugacyOf} {r : Reason} → IsConjugacyCertificate l c (answer.Unknown r) → r ≡ reason.Limits
reason_of conjugacy_unknown = refl

pub unknown_decides : (l : Limits) (c : ConjugacyOf) (r : Reason) (b : Bool) → (b ≡ true) ↔ (r ≡ reason.Limits) →
    (b ≡ true) ↔ (IsWritable (answer.Unknown r) × IsConjugacyCertificate l c (answer.Unknown r))
unknown_decides l c r b told = (
  λ h. (tt, subst (λ (q : Reason). IsConjugacyCertificate l c (answer.Unknown q)) (sym (told.0 h)) conjugacy_unknown),
  λ both. told.1 (reason_of both.1),
)

-- an answer that is neither CONJUGATE nor BROKEN nor UNKNOWN is no certificate for a conjugacy
pub no_conjugacy : (l : Limits) (c : ConjugacyOf) (a : Answer) → ((radii : List ℕ) (steps : List (List Step)) → a ≢ answer.Conjugate radii steps) →
    ((k : ℕ) (along : List ℕ) (shear : ℕ) (symbols : List ℕ) → a ≢ answer.Broken k along shear symbols) → ((r : Reason) → a ≢ answer.Unknown r) →
    IsConjugacyCertificate l c a → ⊥
no_conjugacy l c a yes_form no_form open_form (conjugate one two three last) = yes_form _ _ refl
no_conjugacy l c a yes_form no_form open_form (broken is told) = no_form _ _ _ _ refl
no_conjugacy l c a yes_form no_form open_form conjugacy_unknown = open_form _ refl

-- ---- what the certificates claim

pub conjugacy_claims : (l : Limits) (c : ConjugacyOf) (a : Answer) → EachPart (IsSoundBox l) c → EachPart HasGoalFacts c → IsConjugacyCertificate l c a → ConjugacyClaim c a
conjugacy_claims l c a sound gates (conjugate {n1 = n1} {n2 = n2} {n3 = n3} {n4 = n4} {s1 = s1} {s2 = s2} {s3 = s3} {s4 = s4} one two three last) =
    says_conjugate
    (yes_claims l c.from c.image n1 s1 sound.image.0 sound.image.1.goal gates.image one)
    (yes_claims l c.to c.image_back n2 s2 sound.image_back.0 sound.image_back.1.goal gates.image_back two)
    (yes_claims l c.from c.round n3 s3 sound.round.0 sound.round.1.goal gates.round three)
    (yes_claims l c.to c.round_back n4 s4 sound.round_back.0 sound.round_back.1.goal gates.round_back last)
conjugacy_claims l c a sound gates (broken is told) = says_broken is told.witness
conjugacy_claims l c a sound gates conjugacy_unknown = says_no_more
