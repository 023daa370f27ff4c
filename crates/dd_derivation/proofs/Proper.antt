-- Marking the literals of a step's clause, which shows whether its variables are distinct and in range.
use Rattle.std.proofs.Common.{◌≡◌, ℕ, suc, ◌+◌, ◌-◌, ◌<◌, ◌≤◌, true, false, not, ◌&&◌, List, [], ◌∷◌, ◌++◌, refl, ap, sym, ◌∙◌, subst, length, get_or, take, drop, eqb, inl, inr, ◌⊎◌, drop-cons, take-append-drop}
use Rattle.std.proofs.lemmas.Bool.{eq-eqb, eqb-true, ne_eqb, and_parts, and_from, and_left, and_right, or_cases, or_left, or_right, not-true, not_from_true, or_parts, false≢true, false_from_ne_true}
use Rattle.std.proofs.lemmas.List.{take_more, Folds.list_any-append}
use Rattle.std.specs.Bool.{beq}
use Rattle.dd_clause.specs.{declared.clause.Literal.Literal, Clauses.negation, Clauses.IsLiteralInRange}
use Rattle.dd_derivation.specs.declared.propagation.VariableMark.{VariableMark}
use Rattle.dd_derivation.specs.Derivations.{same_literal, is_among, is_literal_in_range, has_variable, is_proper}
use Rattle.dd_derivation.specs.{checking.MarksOf.FalsesAre, checking.MarksOf.with_mark, lemmas.Soundness.same_literal-eq}
use Rattle.dd_derivation.specs.lemmas.Falses.{FalsesAre-start, in_range-true, among_snoc}
use Rattle.dd_values.specs.lemmas.Booleans.{beq_same}

in-has : (xs : List Literal) (v : ℕ) → has_variable v xs ≡ true → (y : Literal) × (is_among xs y ≡ true) × (y.variable ≡ v)
in-has [] v h = absurd (false≢true h)
in-has (x ∷ xs) v h = elim (or_cases (eqb x.variable v) (has_variable v xs) h) [
  | inl a ↦ (x, or_left _ _ (and_from _ _ (eq-eqb x.variable x.variable refl) (beq_same x.positive)), eqb-true _ _ a)
  | inr a ↦ let r = in-has xs v a in (r.0, or_right _ _ r.1, r.2)
]

has-in : (xs : List Literal) (y : Literal) → is_among xs y ≡ true → has_variable y.variable xs ≡ true
has-in [] y h = absurd (false≢true h)
has-in (x ∷ xs) y h = elim (or_cases (same_literal y x) (is_among xs y) h) [
  | inl a ↦ or_left _ _ (eq-eqb x.variable y.variable (ap (λ (l : Literal). l.variable) (sym (same_literal-eq y x a))))
  | inr a ↦ or_right _ _ (has-in xs y a)
]

has-later : (v : ℕ) (xs ys : List Literal) (l : Literal) → l.variable ≡ v → has_variable v (xs ++ l ∷ ys) ≡ true
has-later v xs ys l e = rw (list_any-append (λ y. eqb y.variable v) xs (l ∷ ys)) (or_right _ _ (or_left _ _ (eq-eqb l.variable v e)))

improper_at : (n : ℕ) (xs ys : List Literal) (l : Literal) → (is_literal_in_range n l ≡ false) ⊎ (has_variable l.variable xs ≡ true) → is_proper n (xs ++ l ∷ ys) ≡ false
improper_at n [] ys l (inl r) = and_left _ _ (and_left _ _ r)
improper_at n [] ys l (inr h) = absurd (false≢true h)
improper_at n (x ∷ xs) ys l (inl r) = and_right (is_literal_in_range n x && not (has_variable x.variable (xs ++ l ∷ ys))) _ (improper_at n xs ys l (inl r))
improper_at n (x ∷ xs) ys l (inr h) = elim (or_cases (eqb x.variable l.variable) (has_variable l.variable xs) h) [
  | inl a ↦ and_left _ _ (and_right (is_literal_in_range n x) _ (not_from_true _ (has-later x.variable xs ys l (sym (eqb-true _ _ a)))))
  | inr a ↦ and_right (is_literal_in_range n x && not (has_variable x.variable (xs ++ l ∷ ys))) _ (improper_at n xs ys l (inr a))
]

pub improper : (n : ℕ) (clause : List Literal) (i : ℕ) (d : Literal) → i < length clause → (is_literal_in_range n (get_or clause i d) ≡ false) ⊎ (has_variable (get_or clause i d).variable (take i clause) ≡ true) → is_proper n clause ≡ false
improper n clause i d lt h =
    let e : clause ≡ take i clause ++ get_or clause i d ∷ drop (suc i) clause = sym (take-append-drop i clause) ∙ ap (λ (x : List Literal). take i clause ++ x) (drop-cons clause i d lt) in
    subst (λ (x : List Literal). is_proper n x ≡ false) (sym e) (improper_at n (take i clause) (drop (suc i) clause) (get_or clause i d) h)

proper_snoc : (n : ℕ) (xs : List Literal) (l : Literal) → is_literal_in_range n l ≡ true → is_proper n xs ≡ true → has_variable l.variable xs ≡ false → is_proper n (xs ++ l ∷ []) ≡ true
proper_snoc n [] l r p a = rw r refl
proper_snoc n (x ∷ xs) l r p a =
    let q = and_parts (is_literal_in_range n x && not (has_variable x.variable xs)) (is_proper n xs) p in
    let q' = and_parts (is_literal_in_range n x) (not (has_variable x.variable xs)) q.0 in
    let b = or_parts (eqb x.variable l.variable) (has_variable l.variable xs) a in
    let g : eqb l.variable x.variable ≡ false = ne_eqb l.variable x.variable (λ e. false≢true (sym b.0 ∙ eq-eqb x.variable l.variable (sym e))) in
    let h : has_variable x.variable (xs ++ l ∷ []) ≡ false = rw (list_any-append (λ y. eqb y.variable x.variable) xs (l ∷ []), not-true _ q'.1, g) refl in
    rw (q'.0, h, proper_snoc n xs l r q.1 b.1) refl

abbrev pub mark_of : List VariableMark → ℕ → VariableMark
mark_of marks v = get_or marks (v - 1) (record { step = 0; positive = false })

-- a literal in range is false exactly when the mark of its variable has the number of this step and the sign of the literal
marked_at : (marks : List VariableMark) (step : ℕ) (front : List Literal) (x : Literal) → FalsesAre marks step [] front → IsLiteralInRange (length marks) x → is_among front x ≡ ((eqb (mark_of marks x.variable).step step) && beq (mark_of marks x.variable).positive x.positive)
marked_at marks step front x m r = sym (rw (in_range-true (length marks) x r) at (m x))

-- a variable with a mark of this step occurs in the part of the clause that was marked
pub marked_has : (marks : List VariableMark) (step : ℕ) (front : List Literal) (v : ℕ) → FalsesAre marks step [] front → 1 ≤ v → v ≤ length marks → (mark_of marks v).step ≡ step → has_variable v front ≡ true
marked_has marks step front v m a b e =
    let y : Literal = record { variable = v; positive = (mark_of marks v).positive } in
    has-in front y (marked_at marks step front y m (a, b) ∙ and_from _ _ (eq-eqb _ step e) (beq_same (mark_of marks v).positive))

-- Let the clause's next literal be in range, and let its variable have no mark of this step yet. After this literal is marked, the marks stand for
-- one more false literal, and the variables so far are still distinct and in range.
pub start_more : (marks : List VariableMark) (step : ℕ) (clause : List Literal) (i : ℕ) (d : Literal) → i < length clause → IsLiteralInRange (length marks) (get_or clause i d) → ((mark_of marks (get_or clause i d).variable).step ≡ step → ⊥) → FalsesAre marks step [] (take i clause) → is_proper (length marks) (take i clause) ≡ true → (is_proper (length marks) (take (i + 1) clause) ≡ true) × FalsesAre (with_mark marks step (get_or clause i d)) step [] (take (i + 1) clause)
start_more marks step clause i d lt r u m p =
    let l = get_or clause i d in
    let t = take_more clause i d lt in
    let no : (x : Literal) → x.variable ≡ l.variable → is_among (take i clause) x ≡ false =
    λ x e. marked_at marks step (take i clause) x m (subst (λ (v : ℕ). (1 ≤ v) × (v ≤ length marks)) (sym e) r) ∙ and_left _ _ (ne_eqb _ step (λ q. u (subst (λ (v : ℕ). (mark_of marks v).step ≡ step) e q))) in
    let fresh : has_variable l.variable (take i clause) ≡ false = false_from_ne_true _ (λ h. let w = in-has (take i clause) l.variable h in false≢true (sym (no w.0 w.2) ∙ w.1)) in
    let range : is_literal_in_range (length marks) l ≡ true = in_range-true (length marks) l r in (
      rw t (proper_snoc (length marks) (take i clause) l range p fresh),
      (λ x. FalsesAre-start marks step (take i clause) l m range (no l refl) (no (negation l) refl) x ∙ sym (ap (λ (xs : List Literal). is_among xs x) t ∙ among_snoc (take i clause) l x)),
    )
