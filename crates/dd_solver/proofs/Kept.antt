-- The marked steps of a refutation are a refutation too. A hint of a marked step names a clause of the list or of a marked step. So this clause is
-- known under its new number where the hint is used. Each kept step but the last is used, and no kept step deletes a clause.
use Rattle.std.proofs.Common.{◌≡◌, ℕ, suc, ◌<◌, ◌≤◌, Bool, true, false, cond, ◌&&◌, ◌||◌, List, [], ◌∷◌, ◌++◌, map, Some, refl, ap, sym, ◌∙◌, subst, length, inl, inr, ◌⊎◌, arith}
use Rattle.std.proofs.lemmas.Bool.{and_parts, and_from, or_cases, or_left, or_right, false≢true, eqb-true, eq-eqb}
use Rattle.std.proofs.lemmas.List.{length-append, Elements.All-nil, Elements.All-cons}
use Rattle.std.specs.List.{All}
use Rattle.dd_clause.specs.declared.clause.Literal.{Literal}
use Rattle.dd_derivation.specs.declared.step.Step.{Step}
use Rattle.dd_derivation.specs.Derivations.{is_empty, known_after, is_right, refutes_from}
use Rattle.dd_solver.specs.Trimming.{is_hint, is_hinted, are_used}
use Rattle.dd_solver.specs.searching.{Marking.kept_step, Marking.kept_steps, Search.after_step}
use Rattle.dd_solver.specs.lemmas.Known.{Known, known_push, known_before, length-after}
use Rattle.dd_solver.specs.lemmas.Renumbering.{Agree, agree_kept, right_kept}

-- some marked step has this number as a hint
abbrev pub hinted_by : ℕ → List Bool → List Step → Bool
hinted_by number [] steps = false
hinted_by number (m ∷ marked) [] = false
hinted_by number (m ∷ marked) (s ∷ steps) = (m && is_hint number s.hints) || hinted_by number marked steps

-- What has to hold of the step s with the number `next` and the mark m. `steps` and `marked` are the steps after it and their marks. `keep` says
-- which clauses are kept, by their numbers, and `rename` gives their new numbers. `last` is the new number of the last clause that is kept before s.
pub record IsPlanned (keep : ℕ → Bool) (rename : ℕ → ℕ) (next last : ℕ) (m : Bool) (s : Step) (marked : List Bool) (steps : List Step) : Type 0 where
  pub same : keep next ≡ m
  pub number : m ≡ true → rename next ≡ suc last
  pub hints : m ≡ true → (h : ℕ) → h < next → is_hint h s.hints ≡ true → keep h ≡ true
  pub end : is_empty steps ≡ true → m ≡ true
  pub needed : m ≡ true → (is_empty steps ≡ true) ⊎ (hinted_by next marked steps ≡ true)

-- `IsPlanned` holds for each step
abbrev pub Plan : (keep : ℕ → Bool) (rename : ℕ → ℕ) → ℕ → ℕ → List Bool → List Step → Type 0
Plan keep rename next last [] steps = Unit {0}
Plan keep rename next last (m ∷ marked) [] = Unit {0}
Plan keep rename next last (m ∷ marked) (s ∷ steps) = IsPlanned keep rename next last m s marked steps × Plan keep rename (suc next) (cond m (suc last) last) marked steps

agree_left : (keep : ℕ → Bool) (rename : ℕ → ℕ) (old new : Known) (c : List Literal) (ds : List ℕ) → keep (suc (length old)) ≡ false → Agree keep rename old new → Agree keep rename (known_after old ds ++ Some c ∷ []) new
agree_left keep rename old new c ds f a h x k e = elim (known_push (known_after old ds) c x h e) [
  | inl b ↦ a h x k (known_before old x ds h b)
  | inr b ↦ (let n : h ≡ suc (length old) = b.0 ∙ ap suc (length-after old ds) in
      absurd (false≢true (sym f ∙ sym (ap keep n) ∙ k)))
]

none_kept : (rename : ℕ → ℕ) (marked : List Bool) (steps : List Step) → is_empty steps ≡ true → is_empty (kept_steps rename marked steps) ≡ true
none_kept rename [] steps h = refl
none_kept rename (m ∷ marked) [] h = refl
none_kept rename (m ∷ marked) (s ∷ steps) h = absurd (false≢true h)

-- if the steps refute the clauses, so do the kept steps
pub refutes_kept : (n : ℕ) (keep : ℕ → Bool) (rename : ℕ → ℕ) (next last : ℕ) (marked : List Bool) (steps : List Step) (old new : Known) → length marked ≡ length steps → next ≡ suc (length old) → last ≡ length new → Plan keep rename next last marked steps → Agree keep rename old new → refutes_from n old steps ≡ true → refutes_from n new (kept_steps rename marked steps) ≡ true
refutes_kept n keep rename next last [] [] old new l o w p a r = absurd (false≢true r)
refutes_kept n keep rename next last [] (s ∷ steps) old new l o w p a r = absurd (omega arith)
refutes_kept n keep rename next last (m ∷ marked) [] old new l o w p a r = absurd (omega arith)
refutes_kept n keep rename next last (m ∷ marked) (s ∷ steps) old new l o w p a r =
    go (λ last' new' w' p' a' e. refutes_kept n keep rename (suc next) last' marked steps (after_step old s) new' (omega arith) long w' p' a' e) m refl
  where
    right : (is_right n old s ≡ true) × (((is_empty steps && is_empty s.clause) || refutes_from n (after_step old s) steps) ≡ true)
    right = and_parts (is_right n old s) _ r

    long : suc next ≡ suc (length (after_step old s))
    long = ap suc (o ∙ omega (arith, length-append (known_after old s.deletes) (Some s.clause ∷ []), length-after old s.deletes))

    kept : m ≡ true → is_right n new (kept_step rename s) ≡ true
    kept t = right_kept n keep rename old new s (λ h b i. p.0.hints t h (rw o b) i) a right.0

    go : ((last' : ℕ) (new' : Known) → last' ≡ length new' → Plan keep rename (suc next) last' marked steps → Agree keep rename (after_step old s) new' → refutes_from n (after_step old s) steps ≡ true → refutes_from n new' (kept_steps rename marked steps) ≡ true)
        → (m' : Bool) → m ≡ m' → refutes_from n new (kept_steps rename (m' ∷ marked) (s ∷ steps)) ≡ true
    go more true t = and_from _ _ (kept t) (elim (or_cases _ _ right.1) [
      | inl b ↦ (let e = and_parts (is_empty steps) (is_empty s.clause) b in or_left _ _ (and_from _ _ (none_kept rename marked steps e.0) e.1))
      | inr b ↦ or_right _ _ (more (suc last) (new ++ Some s.clause ∷ []) (omega (arith, length-append new (Some s.clause ∷ [])))
          (subst (λ (i : ℕ). Plan keep rename (suc next) i marked steps) (ap (λ (b : Bool). cond b (suc last) last) t) p.1)
          (agree_kept keep rename old new s.clause s.deletes (sym (ap rename o) ∙ p.0.number t ∙ ap suc w) a) b)
    ])
    go more false t = elim (or_cases _ _ right.1) [
      | inl b ↦ absurd (false≢true (sym t ∙ p.0.end (and_parts (is_empty steps) (is_empty s.clause) b).0))
      | inr b ↦ more last new w
          (subst (λ (i : ℕ). Plan keep rename (suc next) i marked steps) (ap (λ (b : Bool). cond b (suc last) last) t) p.1)
          (agree_left keep rename old new s.clause s.deletes (sym (ap keep o) ∙ p.0.same ∙ t) a) b
    ]

hint_renamed : (rename : ℕ → ℕ) (number : ℕ) (hints : List ℕ) → is_hint number hints ≡ true → is_hint (rename number) (map rename hints) ≡ true
hint_renamed rename number [] h = h
hint_renamed rename number (x ∷ hints) h = elim (or_cases _ _ h) [
  | inl e ↦ or_left _ _ (eq-eqb (rename x) (rename number) (ap rename (eqb-true x number e)))
  | inr e ↦ or_right _ _ (hint_renamed rename number hints e)
]

hinted_kept : (rename : ℕ → ℕ) (number : ℕ) (marked : List Bool) (steps : List Step) → hinted_by number marked steps ≡ true → is_hinted (rename number) (kept_steps rename marked steps) ≡ true
hinted_kept rename number [] steps h = absurd (false≢true h)
hinted_kept rename number (m ∷ marked) [] h = absurd (false≢true h)
hinted_kept rename number (true ∷ marked) (s ∷ steps) h = elim (or_cases _ _ h) [
  | inl e ↦ or_left _ _ (hint_renamed rename number s.hints e)
  | inr e ↦ or_right _ _ (hinted_kept rename number marked steps e)
]
hinted_kept rename number (false ∷ marked) (s ∷ steps) h = hinted_kept rename number marked steps h

-- each kept step but the last is used
pub used_kept : (keep : ℕ → Bool) (rename : ℕ → ℕ) (next last : ℕ) (marked : List Bool) (steps : List Step) → Plan keep rename next last marked steps → are_used (suc last) (kept_steps rename marked steps) ≡ true
used_kept keep rename next last [] steps p = refl
used_kept keep rename next last (m ∷ marked) [] p = refl
used_kept keep rename next last (true ∷ marked) (s ∷ steps) p =
    let first : (is_empty (kept_steps rename marked steps) || is_hinted (suc last) (kept_steps rename marked steps)) ≡ true =
    elim (p.0.needed refl) [
      | inl e ↦ or_left _ _ (none_kept rename marked steps e)
      | inr e ↦ or_right _ _ (subst (λ (i : ℕ). is_hinted i (kept_steps rename marked steps) ≡ true) (p.0.number refl) (hinted_kept rename next marked steps e))
    ] in
    and_from _ _ first (used_kept keep rename (suc next) (suc last) marked steps p.1)
used_kept keep rename next last (false ∷ marked) (s ∷ steps) p = used_kept keep rename (suc next) last marked steps p.1

pub no_more : (rename : ℕ → ℕ) (marked : List Bool) (steps : List Step) → length (kept_steps rename marked steps) ≤ length steps
no_more rename [] steps = omega arith
no_more rename (m ∷ marked) [] = omega arith
no_more rename (true ∷ marked) (s ∷ steps) = omega (arith, no_more rename marked steps)
no_more rename (false ∷ marked) (s ∷ steps) = omega (arith, no_more rename marked steps)

abbrev pub DeletesNothing : Step → Type 0
DeletesNothing s = s.deletes ≡ []

pub no_deletes : (rename : ℕ → ℕ) (marked : List Bool) (steps : List Step) → All DeletesNothing (kept_steps rename marked steps)
no_deletes rename [] steps = All-nil DeletesNothing
no_deletes rename (m ∷ marked) [] = All-nil DeletesNothing
no_deletes rename (true ∷ marked) (s ∷ steps) = All-cons DeletesNothing (kept_step rename s) (kept_steps rename marked steps) refl (no_deletes rename marked steps)
no_deletes rename (false ∷ marked) (s ∷ steps) = no_deletes rename marked steps
