-- Each learned step is right, given the steps before it, and hints of later steps may name its clause. After it the trail is still right, and the
-- variables of the known clauses are still in range. If the last step's clause is empty, the steps refute the clauses.
use Rattle.std.proofs.Common.{◌≡◌, ℕ, suc, Bool, true, ◌&&◌, List, [], ◌∷◌, ◌++◌, Option, Some, None, refl, ◌∙◌, subst, length, get_or, take, inl, inr}
use Rattle.std.proofs.lemmas.{Bool.and_parts, Bool.and_from, Bool.or_right, Bool.leb-true}
use Rattle.std.proofs.lemmas.List.Elements.{All-cons, All-nil}
use Rattle.dd_clause.specs.{declared.clause.Literal.Literal, Clauses.IsLiteralInRange, Clauses.IsClauseInRange}
use Rattle.dd_derivation.specs.declared.{propagation.Finding.TheVariants.Forced, step.Step.Step}
use Rattle.dd_derivation.specs.Derivations.{is_empty, is_among, finding, hint_finding, is_literal_in_range, is_proper, is_conflict, is_right, are_deletable, known_after, refutes_from}
use Rattle.dd_trail.specs.{declared.trail.Entry.Entry, Trails.falses}
use Rattle.dd_trail.specs.Reasons.{AreInRange, Follows, IsTrail}
use Rattle.dd_solver.specs.searching.{Analysis.is_rightly_learned, Deleting.MayDelete}
use Rattle.dd_solver.specs.searching.Search.{after_step, known_through, is_derived}
use Rattle.dd_trail.specs.lemmas.Reasons.{hint_clause, at_clause}
use Rattle.dd_solver.specs.lemmas.Known.{Known, known_push, known_left, known_last, known_before}

-- a trail stays right after a step, because the step keeps the clauses that forced the entries
pub trail_after : (n : ℕ) (known : Known) (first : ℕ) (trail : List Entry) (s : Step) → IsTrail n known trail → MayDelete known first trail s.deletes → IsTrail n (after_step known s) trail
trail_after n known first trail s ok m k d h =
    let e = ok k d h in
    record { in_range = e.in_range; fresh = e.fresh; follows = go (get_or trail k d).reason refl e.follows }
  where
    go : (o : Option ℕ) → (get_or trail k d).reason ≡ o → Follows known (take k trail) (get_or trail k d).literal o → Follows (after_step known s) (take k trail) (get_or trail k d).literal o
    go None q f = f
    go (Some r) q f =
        let p = is_among (falses (take k trail)) in
        let w = hint_clause known p r (Forced (get_or trail k d).literal) (λ x. cc) f in
        at_clause (after_step known s) p r w.0 (known_left (known_after known s.deletes) s.clause w.0 r (m.reasons_stay k r d h q ∙ w.1)) ∙ w.2

-- a clause that is added gets the number after the last one, so `hint_finding` of this number is `finding` of the clause
pub hint_new : (known : Known) (c : List Literal) (p : Literal → Bool) (r : ℕ) → r ≡ suc (length known) → hint_finding (known ++ Some c ∷ []) p r ≡ finding p c
hint_new known c p r e = at_clause (known ++ Some c ∷ []) p r c (known_last known c r e)

proper_in_range : (n : ℕ) (c : List Literal) → is_proper n c ≡ true → IsClauseInRange n c
proper_in_range n [] h = All-nil (IsLiteralInRange n)
proper_in_range n (l ∷ c) h =
    let q = and_parts (is_literal_in_range n l && _) (is_proper n c) h in
    let r = and_parts _ _ (and_parts (is_literal_in_range n l) _ q.0).0 in
    All-cons (IsLiteralInRange n) l c (leb-true _ _ r.0, leb-true _ _ r.1) (proper_in_range n c q.1)

pub in_range_after : (n : ℕ) (known : Known) (s : Step) → AreInRange n known → is_proper n s.clause ≡ true → AreInRange n (after_step known s)
in_range_after n known s ok p r c e = elim (known_push (known_after known s.deletes) s.clause c r e) [
  | inl a ↦ ok r c (known_before known c s.deletes r a)
  | inr b ↦ subst (IsClauseInRange n) b.1 (proper_in_range n s.clause p)
]

pub right_from : (n : ℕ) (known : Known) (s : Step) → is_rightly_learned n known s.clause s.hints ≡ true → are_deletable known s.deletes ≡ true → is_right n known s ≡ true
right_from n known s r d =
    let q = and_parts (is_proper n s.clause) (is_conflict known s.clause s.hints) r in
    rw (q.0, q.1, d) refl

-- if all steps are right and the last step's clause is empty, the steps refute the clauses
pub refutes_last : (n : ℕ) (before : Known) (steps : List Step) (s : Step) → is_derived n before steps ≡ true → is_right n (known_through before steps) s ≡ true → s.clause ≡ [] → refutes_from n before (steps ++ s ∷ []) ≡ true
refutes_last n before [] s h r e =
    let b : is_empty s.clause ≡ true = rw e refl in
    rw (r, b) refl
refutes_last n before (x ∷ steps) s h r e =
    let q = and_parts (is_right n before x) (is_derived n (after_step before x) steps) h in
    and_from _ _ q.0 (or_right _ _ (refutes_last n (after_step before x) steps s q.1 r e))
