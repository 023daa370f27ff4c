-- When a clause is falsified or forces a literal, in terms of its literals.
use Rattle.std.proofs.Common.{◌≡◌, Bool, true, false, List, [], ◌∷◌, refl, sym, ◌∙◌, inl, inr}
use Rattle.std.proofs.lemmas.Bool.{and_from, or_right, false≢true}
use Rattle.std.specs.{List.list_all}
use Rattle.dd_clause.specs.declared.clause.Literal.{Literal}
use Rattle.dd_derivation.specs.declared.propagation.Finding.TheVariants.{Falsified, Forced}
use Rattle.dd_derivation.specs.Derivations.{same_literal, finding_of, finding}
use Rattle.dd_derivation.specs.lemmas.Soundness.{same_literal-refl}
use Rattle.dd_derivation.specs.lemmas.Findings.{In, in_here, left_of, in_left_of, of_left, Forces}

-- a clause is falsified if each of its literals is false
pub all_falsified : (p : Literal → Bool) (c : List Literal) → ((x : Literal) → In c x → p x ≡ true) → finding p c ≡ Falsified
all_falsified p [] a = refl
all_falsified p (y ∷ c) a = rw (a y (in_here c y)) (all_falsified p c (λ x i. a x (or_right _ _ i)))

all_same : (l : Literal) (rest : List Literal) → ((x : Literal) → In rest x → x ≡ l) → list_all (same_literal l) rest ≡ true
all_same l [] a = refl
all_same l (y ∷ rest) a = and_from _ _ (rw (a y (in_here rest y)) (same_literal-refl l)) (all_same l rest (λ x i. a x (or_right _ _ i)))

pub forced_from : (p : Literal → Bool) (c : List Literal) (l : Literal) → Forces p c l → finding p c ≡ Forced l
forced_from p c l f = go (left_of p c) (in_left_of p c l f.member f.not_false) (λ x i. only x (of_left p c x i))
  where
    only : (x : Literal) → (p x ≡ false) × In c x → x ≡ l
    only x h = elim (f.others x h.1) [ inl e ↦ e | inr t ↦ absurd (false≢true (sym h.0 ∙ t)) ]

    go : (xs : List Literal) → In xs l → ((x : Literal) → In xs x → x ≡ l) → finding_of p xs ≡ Forced l
    go [] i a = absurd (false≢true i)
    go (y ∷ rest) i a =
        let e : y ≡ l = a y (in_here rest y) in
        let s : list_all (same_literal l) rest ≡ true = all_same l rest (λ x j. a x (or_right _ _ j)) in
        rw (e, s, f.not_true) refl
