-- Entries of a trail by place, and the literals that they make false.
use Rattle.std.proofs.Common.{◌≡◌, ℕ, zero, suc, ◌+◌, ◌<◌, ◌≤◌, true, false, List, [], ◌∷◌, ◌++◌, refl, ap, sym, ◌∙◌, subst, length, get_or, take, eqb, inl, inr, arith}
use Rattle.std.proofs.lemmas.Bool.{eq-eqb, eqb-true, or_cases, or_left, or_right, false≢true, false_from_ne_true}
use Rattle.std.proofs.lemmas.List.{take_more, length-take, get_or-take, map-append}
use Rattle.dd_clause.specs.{declared.clause.Literal.Literal, Clauses.negation}
use Rattle.dd_derivation.specs.{Derivations.same_literal, Derivations.is_among, Derivations.has_variable, lemmas.Soundness.same_literal-eq}
use Rattle.dd_derivation.specs.lemmas.Findings.{In, in_here}
use Rattle.dd_trail.specs.{declared.trail.Entry.Entry, Trails.falses}

pub falses-more : (trail : List Entry) (j : ℕ) (d : Entry) → j < length trail → falses (take (j + 1) trail) ≡ falses (take j trail) ++ negation (get_or trail j d).literal ∷ []
falses-more trail j d h = ap falses (take_more trail j d h) ∙ map-append (λ (e : Entry). negation e.literal) (take j trail) (get_or trail j d ∷ [])

-- a false literal is the negation of some entry's literal
pub in_falses : (trail : List Entry) (x : Literal) → In (falses trail) x → (k : ℕ) × (k < length trail) × ((d : Entry) → negation (get_or trail k d).literal ≡ x)
in_falses [] x h = absurd (false≢true h)
in_falses (e ∷ trail) x h = elim (or_cases (same_literal x (negation e.literal)) (is_among (falses trail) x) h) [
  | inl a ↦ (0, omega arith, λ d. sym (same_literal-eq x (negation e.literal) a))
  | inr a ↦ let r = in_falses trail x a in (suc r.0, omega arith, λ d. r.2 d)
]

pub at_falses : (trail : List Entry) (k : ℕ) (d : Entry) → k < length trail → In (falses trail) (negation (get_or trail k d).literal)
at_falses [] k d h = absurd (omega arith)
at_falses (e ∷ trail) zero d h = in_here (falses trail) (negation e.literal)
at_falses (e ∷ trail) (suc k) d h = or_right _ _ (at_falses trail k d (omega arith))

-- a literal that the first j entries make false is the negation of the literal of one of them
pub in_falses_take : (trail : List Entry) (j : ℕ) (x : Literal) → j ≤ length trail → In (falses (take j trail)) x → (k : ℕ) × (k < j) × ((d : Entry) → negation (get_or trail k d).literal ≡ x)
in_falses_take trail j x l h =
    let r = in_falses (take j trail) x h in
    let lt : r.0 < j = omega (arith, length-take j trail, r.1) in
    (r.0, lt, λ d. ap (λ (e : Entry). negation e.literal) (sym (get_or-take j trail r.0 d lt)) ∙ r.2 d)

pub at_falses_take : (trail : List Entry) (j k : ℕ) (d : Entry) → j ≤ length trail → k < j → In (falses (take j trail)) (negation (get_or trail k d).literal)
at_falses_take trail j k d l h = subst (λ (e : Entry). In (falses (take j trail)) (negation e.literal)) (get_or-take j trail k d h) (at_falses (take j trail) k d (omega (arith, length-take j trail)))

pub has_variable-in : (xs : List Literal) (y : Literal) → In xs y → has_variable y.variable xs ≡ true
has_variable-in [] y h = absurd (false≢true h)
has_variable-in (x ∷ xs) y h = elim (or_cases (same_literal y x) (is_among xs y) h) [
  | inl a ↦ or_left _ _ (eq-eqb x.variable y.variable (ap (λ (l : Literal). l.variable) (sym (same_literal-eq y x a))))
  | inr a ↦ or_right _ _ (has_variable-in xs y a)
]

pub in-has_variable : (xs : List Literal) (v : ℕ) → has_variable v xs ≡ true → (y : Literal) × (In xs y) × (y.variable ≡ v)
in-has_variable [] v h = absurd (false≢true h)
in-has_variable (x ∷ xs) v h = elim (or_cases (eqb x.variable v) (has_variable v xs) h) [
  | inl a ↦ (x, in_here xs x, eqb-true _ _ a)
  | inr a ↦ let r = in-has_variable xs v a in (r.0, or_right _ _ r.1, r.2)
]

-- if no literal of a list has the variable, no literal of the variable is in the list
pub absent : (xs : List Literal) (x : Literal) (v : ℕ) → x.variable ≡ v → has_variable v xs ≡ false → is_among xs x ≡ false
absent xs x v q f = false_from_ne_true _ (λ h. false≢true (sym f ∙ subst (λ (w : ℕ). has_variable w xs ≡ true) q (has_variable-in xs x h)))

pub get_any : {A : Type 0} (xs : List A) (j : ℕ) (d d' : A) → j < length xs → get_or xs j d ≡ get_or xs j d'
get_any [] j d d' h = absurd (omega arith)
get_any (x ∷ xs) zero d d' h = refl
get_any (x ∷ xs) (suc j) d d' h = get_any xs j d d' (omega arith)

pub take_shorter : (trail : List Entry) (k j : ℕ) → k ≤ j → take k (take j trail) ≡ take k trail
take_shorter trail zero j h = refl
take_shorter [] (suc k) zero h = refl
take_shorter [] (suc k) (suc j) h = refl
take_shorter (e ∷ trail) (suc k) zero h = absurd (omega arith)
take_shorter (e ∷ trail) (suc k) (suc j) h = ap (λ (xs : List Entry). e ∷ xs) (take_shorter trail k j (omega arith))
