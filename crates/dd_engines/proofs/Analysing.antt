-- The walk back from a conflict. At each point, the entries still to be visited make some literals false. Take some of these literals as false,
-- including all those of marked variables. Whichever are taken, the hints found so far lead to a conflict. In the end no entry is left, so no literal
-- is taken as false.
use Rattle.std.proofs.Common.{◌≡◌, ℕ, zero, suc, ◌+◌, ◌<◌, Bool, true, false, cond, not, ◌&&◌, List, [], ◌∷◌, ◌++◌, Some, refl, ap, sym, ◌∙◌, subst, inl, inr, ◌⊎◌, length, get_or, take, reverse, arith, add-one}
use Rattle.std.proofs.lemmas.Bool.{cases_Bool, or_cases, or_left, or_right, false≢true}
use Rattle.std.proofs.lemmas.List.{take_more, take_all, reverse-append, map-append, Folds.list_any-append}
use Rattle.std.specs.List.{list_all, filter, All}
use Rattle.dd_clause.specs.{declared.clause.Literal.Literal, Clauses.negation, Clauses.IsLiteralInRange, Clauses.IsClauseInRange}
use Rattle.dd_derivation.specs.declared.propagation.Finding.{Finding}
use Rattle.dd_derivation.specs.declared.propagation.Finding.TheVariants.{Falsified, Forced, Open}
use Rattle.dd_derivation.specs.Derivations.{same_literal, is_among, finding_of, finding, clause_of, is_conflict}
use Rattle.dd_derivation.specs.lemmas.{Soundness.same_literal-eq, Findings.In, Findings.in_here}
use Rattle.dd_engines.specs.declared.analysis.Entry.{Entry}
use Rattle.dd_engines.specs.propagation.Following.{alive, falses, IsForced, IsTrail, IsFalsified, Ends}
use Rattle.dd_engines.specs.propagation.Analysis.{marks, Grows, AreMarked}
use Rattle.dd_engines.proofs.Following.{forced_has}

-- Let p and q say which literals are false. If they agree on the literals of a clause, the literals of the clause that are not false by p are those
-- that are not false by q.
filter_same : (p q : Literal → Bool) (c : List Literal) → ((x : Literal) → In c x → p x ≡ q x) → filter (λ x. not (p x)) c ≡ filter (λ x. not (q x)) c
filter_same p q [] same = refl
filter_same p q (y ∷ c) same = rw (same y (in_here c y), filter_same p q c (λ x i. same x (or_right _ _ i))) refl

-- Let xs be the literals of a clause that are not false, by p and by q alike. If each literal that is false by q is false by p, and p finds a
-- conflict or a forced literal in xs, then q finds the same.
fewer_false : (p q : Literal → Bool) (xs : List Literal) (f : Finding) → ((x : Literal) → p x ≡ false → q x ≡ false) → (f ≡ Open → ⊥) → finding_of p xs ≡ f → finding_of q xs ≡ f
fewer_false p q [] f fewer shut is = is
fewer_false p q (y ∷ xs) f fewer shut is = go (list_all (same_literal y) xs) (p (negation y)) refl is
  where
    go : (alone made : Bool) → p (negation y) ≡ made → cond (alone && not made) (Forced y) Open ≡ f → cond (alone && not (q (negation y))) (Forced y) Open ≡ f
    go true false e h = rw (fewer (negation y) e) h
    go true true e h = absurd (shut (sym h))
    go false true e h = absurd (shut (sym h))
    go false false e h = absurd (shut (sym h))

-- the two lemmas together: q finds the same conflict or forced literal in a clause as p
same_finding : (p q : Literal → Bool) (c : List Literal) (f : Finding) → ((x : Literal) → p x ≡ false → q x ≡ false) → ((x : Literal) → In c x → p x ≡ q x) → (f ≡ Open → ⊥) → finding p c ≡ f → finding q c ≡ f
same_finding p q c f fewer same shut is = fewer_false p q (filter (λ x. not (q x)) c) f fewer shut (subst (λ (xs : List Literal). finding_of p xs ≡ f) (filter_same p q c same) is)

-- The literals of `start` may be taken as false before the entry at place i: the earlier entries make each of them false. If the earlier
-- entries make a literal of a marked variable false, that literal is in `start`.
pub record Start (entries : List Entry) (i : ℕ) (marked : List Bool) (start : List Literal) : Type 0 where
  pub within : (x : Literal) → In start x → In (falses (take i entries)) x
  pub marked_in : (x : Literal) → In (falses (take i entries)) x → marks marked x ≡ true → In start x

-- if the literals of any `start` (see `Start`) are taken as false, the hints lead to a conflict
pub record Leads (cs : List (List Literal)) (entries : List Entry) (i : ℕ) (marked : List Bool) (hints : List ℕ) : Type 0 where
  pub leads : (start : List Literal) → Start entries i marked start → is_conflict (alive cs) start hints ≡ true

-- if all variables of a clause are marked, `start` gives the same conflict or forced literal for the clause as all the earlier entries do
from_start : (entries : List Entry) (i : ℕ) (marked : List Bool) (start c : List Literal) (f : Finding) → Start entries i marked start → AreMarked marked c → (f ≡ Open → ⊥) → finding (is_among (falses (take i entries))) c ≡ f → finding (is_among start) c ≡ f
from_start entries i marked start c f s m shut is = same_finding (is_among (falses (take i entries))) (is_among start) c f fewer same shut is
  where
    fewer : (x : Literal) → is_among (falses (take i entries)) x ≡ false → is_among start x ≡ false
    fewer x n = elim (cases_Bool (is_among start x)) [ inl t ↦ absurd (false≢true (sym n ∙ s.within x t)) | inr e ↦ e ]

    same : (x : Literal) → In c x → is_among (falses (take i entries)) x ≡ is_among start x
    same x here = elim (cases_Bool (is_among (falses (take i entries)) x)) [
      | inl t ↦ t ∙ sym (s.marked_in x t (m x here))
      | inr n ↦ n ∙ sym (fewer x n)
    ]

-- the clause at place k, counted from 0, has the number k + 1
clause_at : (cs : List (List Literal)) (k : ℕ) → k < length cs → clause_of (alive cs) (k + 1) ≡ Some (get_or cs k [])
clause_at cs k lt = rw (add-one k) (at cs k lt)
  where
    at : (cs : List (List Literal)) (k : ℕ) → k < length cs → clause_of (alive cs) (suc k) ≡ Some (get_or cs k [])
    at [] k lt = absurd (omega (arith, lt))
    at (c ∷ cs) zero lt = refl
    at (c ∷ cs) (suc k) lt = at cs k (omega (arith, lt))

-- the walk back begins with a single hint, the number of the conflict
pub leads_conflict : (cs : List (List Literal)) (entries : List Entry) (marked : List Bool) (k : ℕ) → IsFalsified cs entries k → AreMarked marked (get_or cs k []) → Leads cs entries (length entries) marked ((k + 1) ∷ [])
leads_conflict cs entries marked k conflict m = record {
  leads = λ start s.
      let whole : finding (is_among (falses (take (length entries) entries))) (get_or cs k []) ≡ Falsified = rw (take_all (length entries) entries (omega arith)) conflict.falsified in
      let found : finding (is_among start) (get_or cs k []) ≡ Falsified = from_start entries (length entries) marked start (get_or cs k []) Falsified s m (λ e. cc) whole in
      rw (clause_at cs k conflict.within, found) refl;
}

falses-more : (entries : List Entry) (j : ℕ) (d : Entry) (x : Literal) → j < length entries → is_among (falses (take (j + 1) entries)) x ≡ is_among (falses (take j entries) ++ negation (get_or entries j d).literal ∷ []) x
falses-more entries j d x lt = ap (λ (es : List Entry). is_among (falses es) x) (take_more entries j d lt) ∙ ap (λ (xs : List Literal). is_among xs x) (map-append (λ (e : Entry). negation e.literal) (take j entries) (get_or entries j d ∷ []))

-- The next three lemmas: a literal is false after an entry exactly when it was false before the entry or is the negation of the entry's literal.
later_from : (entries : List Entry) (j : ℕ) (d : Entry) (x : Literal) → j < length entries → In (falses (take j entries)) x → In (falses (take (j + 1) entries)) x
later_from entries j d x lt i = falses-more entries j d x lt ∙ list_any-append (same_literal x) (falses (take j entries)) (negation (get_or entries j d).literal ∷ []) ∙ or_left _ _ i

later_here : (entries : List Entry) (j : ℕ) (d : Entry) (x : Literal) → j < length entries → x ≡ negation (get_or entries j d).literal → In (falses (take (j + 1) entries)) x
later_here entries j d x lt e =
    falses-more entries j d x lt ∙ list_any-append (same_literal x) (falses (take j entries)) (negation (get_or entries j d).literal ∷ [])
    ∙ or_right (is_among (falses (take j entries)) x) _ (subst (In (negation (get_or entries j d).literal ∷ [])) (sym e) (in_here [] (negation (get_or entries j d).literal)))

later_cases : (entries : List Entry) (j : ℕ) (d : Entry) (x : Literal) → j < length entries → In (falses (take (j + 1) entries)) x → (In (falses (take j entries)) x) ⊎ (x ≡ negation (get_or entries j d).literal)
later_cases entries j d x lt i =
    elim (or_cases (is_among (falses (take j entries)) x) (is_among (negation (get_or entries j d).literal ∷ []) x) (sym (list_any-append (same_literal x) (falses (take j entries)) (negation (get_or entries j d).literal ∷ [])) ∙ sym (falses-more entries j d x lt) ∙ i)) [
      | inl before ↦ inl before
      | inr here ↦ elim (or_cases (same_literal x (negation (get_or entries j d).literal)) false here) [
        | inl a ↦ inr (same_literal-eq x (negation (get_or entries j d).literal) a)
        | inr f ↦ absurd (false≢true f)
      ]
    ]

-- the case of an entry that is not needed
pub leads_past : (cs : List (List Literal)) (entries : List Entry) (j : ℕ) (d : Entry) (marked : List Bool) (hints : List ℕ) → j < length entries → marks marked (get_or entries j d).literal ≡ false → Leads cs entries (j + 1) marked hints → Leads cs entries j marked hints
leads_past cs entries j d marked hints lt unmarked w = record {
  leads = λ start s. w.leads start (record {
    within = λ x i. later_from entries j d x lt (s.within x i);
    marked_in = λ x i m. elim (later_cases entries j d x lt i) [
      | inl before ↦ s.marked_in x before m
      | inr e ↦ absurd (false≢true (sym unmarked ∙ ap (marks marked) (sym e) ∙ m))
    ];
  });
}

-- the case of an entry that is needed: the values of the other variables of its clause are then needed too
pub leads_forced : (cs : List (List Literal)) (entries : List Entry) (j : ℕ) (d : Entry) (marked more : List Bool) (hints : List ℕ) → j < length entries → IsTrail cs entries → Grows marked more → AreMarked more (get_or cs (get_or entries j d).number []) → Leads cs entries (j + 1) marked hints
    → Leads cs entries j more (((get_or entries j d).number + 1) ∷ hints)
leads_forced cs entries j d marked more hints lt trail grows m w = record {
  leads = λ start s.
      let e = get_or entries j d in
      let c = get_or cs e.number [] in
      let forced : IsForced cs (take j entries) e = trail j d lt in
      let found : finding (is_among start) c ≡ Forced e.literal = from_start entries j more start c (Forced e.literal) s m (λ h. cc) forced.forced in
      rw (clause_at cs e.number forced.within, found) (w.leads (negation e.literal ∷ start) (record {
        within = λ x i. elim (or_cases (same_literal x (negation e.literal)) (is_among start x) i) [
          | inl a ↦ later_here entries j d x lt (same_literal-eq x (negation e.literal) a)
          | inr a ↦ later_from entries j d x lt (s.within x a)
        ];
        marked_in = λ x i k. elim (later_cases entries j d x lt i) [
          | inl before ↦ or_right _ _ (s.marked_in x before (grows x k))
          | inr a ↦ subst (In (negation e.literal ∷ start)) (sym a) (in_here start (negation e.literal))
        ];
      }));
}

-- the end, when no entry is left
pub leads_all : (cs : List (List Literal)) (entries : List Entry) (marked : List Bool) (hints : List ℕ) → Leads cs entries 0 marked hints → Ends cs hints
leads_all cs entries marked hints w = w.leads [] (record { within = λ x i. absurd (false≢true i); marked_in = λ x i m. absurd (false≢true i) })

-- the next hint, added at the end of the list, comes first in the reversed list
pub leads_reversed : (cs : List (List Literal)) (entries : List Entry) (j : ℕ) (marked : List Bool) (hints : List ℕ) (h : ℕ) → Leads cs entries j marked (h ∷ reverse hints) → Leads cs entries j marked (reverse (hints ++ h ∷ []))
leads_reversed cs entries j marked hints h w = subst (Leads cs entries j marked) (sym (reverse-append hints (h ∷ []))) w

-- the variable of an entry is in the range of the clauses' variables
pub entry_in_range : (n : ℕ) (cs : List (List Literal)) (entries : List Entry) (j : ℕ) (d : Entry) → All (IsClauseInRange n) cs → IsTrail cs entries → j < length entries → IsLiteralInRange n (get_or entries j d).literal
entry_in_range n cs entries j d all trail lt =
    let e = get_or entries j d in
    let forced : IsForced cs (take j entries) e = trail j d lt in
    forced_has (IsLiteralInRange n) (is_among (falses (take j entries))) (get_or cs e.number []) e.literal (all e.number [] forced.within) forced.forced

-- if `literals` was read from the clause at place k, and the variables of `literals` are marked, then the variables of the clause are marked
pub marked_clause : (cs : List (List Literal)) (k : ℕ) (c literals : List Literal) (marked : List Bool) → k < length cs → c ≡ get_or cs k c → literals ≡ c → AreMarked marked literals → AreMarked marked (get_or cs k [])
marked_clause cs k c literals marked lt is same m = subst (AreMarked marked) (same ∙ is ∙ any cs k c [] lt) m
  where
    any : (cs : List (List Literal)) (k : ℕ) (c d : List Literal) → k < length cs → get_or cs k c ≡ get_or cs k d
    any [] k c d lt = absurd (omega (arith, lt))
    any (x ∷ cs) zero c d lt = refl
    any (x ∷ cs) (suc k) c d lt = any cs k c d (omega (arith, lt))
