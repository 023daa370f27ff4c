-- What a clause forces, and how a trail grows.
use Rattle.std.proofs.Common.{◌≡◌, ◌≢◌, ℕ, ◌<◌, ◌≤◌, Bool, true, false, List, [], ◌∷◌, ◌++◌, Option, Some, None, refl, ap, sym, ◌∙◌, subst, length, get_or, take, inl, inr, arith}
use Rattle.std.proofs.lemmas.Bool.{or_cases, cases_eq, false≢true, false_from_ne_true}
use Rattle.std.proofs.lemmas.List.{take_all, take-append-le, length-append, length-take, get_or-take, get_or_append_left}
use Rattle.std.proofs.lemmas.List.Elements.{All-head, All-tail}
use Rattle.std.proofs.Math.Seq.{get_or-append_seam, take-append_seam}
use Rattle.std.specs.{List.All, Option.option_map_or}
use Rattle.dd_clause.specs.{declared.clause.Literal.Literal, Clauses.IsLiteralInRange, Clauses.negation}
use Rattle.dd_derivation.specs.declared.propagation.Finding.{Finding}
use Rattle.dd_derivation.specs.declared.propagation.Finding.TheVariants.{Forced, Open}
use Rattle.dd_derivation.specs.Derivations.{same_literal, is_among, has_variable, finding, clause_of, hint_finding}
use Rattle.dd_derivation.specs.lemmas.{Soundness.same_literal-eq, Falses.same_variable, Findings.In, Findings.forces_from}
use Rattle.dd_trail.specs.{declared.trail.Entry.Entry, Trails.EntryList, Trails.falses, Reasons.AreInRange, Reasons.EntryOk, Reasons.IsTrail, Propagation.Extends}
use Rattle.dd_trail.specs.lemmas.Trails.{has_variable-in, in-has_variable, at_falses_take, take_shorter}

-- ---- what a clause forces

pub all_in : (P : Literal → Type 0) (c : List Literal) (x : Literal) → All P c → In c x → P x
all_in P [] x a i = absurd (false≢true i)
all_in P (y ∷ c) x a i = elim (or_cases (same_literal x y) (is_among c x) i) [
  | inl e ↦ subst P (sym (same_literal-eq x y e)) (All-head P y c a)
  | inr j ↦ all_in P c x (All-tail P y c a) j
]

-- if `hint_finding` of a number is not `Open`, there is a clause with this number, and `finding` gives the same for this clause
pub hint_clause : (known : List (Option (List Literal))) (p : Literal → Bool) (r : ℕ) (f : Finding) → (f ≡ Open → ⊥) → hint_finding known p r ≡ f → (c : List Literal) × (clause_of known r ≡ Some c) × (finding p c ≡ f)
hint_clause known p r f n h = go (clause_of known r) refl h
  where
    go : (o : Option (List Literal)) → clause_of known r ≡ o → option_map_or (finding p) o Open ≡ f → (c : List Literal) × (clause_of known r ≡ Some c) × (finding p c ≡ f)
    go None e h = absurd (n (sym h))
    go (Some c) e h = (c, e, h)

pub at_clause : (known : List (Option (List Literal))) (p : Literal → Bool) (r : ℕ) (c : List Literal) → clause_of known r ≡ Some c → hint_finding known p r ≡ finding p c
at_clause known p r c e = ap (λ (o : Option (List Literal)). option_map_or (finding p) o Open) e

-- a forced literal is in range
pub forced_in_range : (known : List (Option (List Literal))) (n : ℕ) (p : Literal → Bool) (r : ℕ) (l : Literal) → AreInRange n known → hint_finding known p r ≡ Forced l → IsLiteralInRange n l
forced_in_range known n p r l a h =
    let q = hint_clause known p r (Forced l) (λ e. cc) h in
    all_in (IsLiteralInRange n) q.0 l (a r q.0 q.1) (forces_from p q.0 l q.2).member

-- no false literal has the variable of a forced literal
pub forced_new : (known : List (Option (List Literal))) (xs : List Literal) (r : ℕ) (l : Literal) → hint_finding known (is_among xs) r ≡ Forced l → has_variable l.variable xs ≡ false
forced_new known xs r l h = false_from_ne_true _ (λ t.
    let q = hint_clause known (is_among xs) r (Forced l) (λ e. cc) h in
    let f = forces_from (is_among xs) q.0 l q.2 in
    let w = in-has_variable xs l.variable t in
    elim (same_variable w.0 l w.2) [
      | inl e ↦ false≢true (sym f.not_false ∙ subst (In xs) e w.1)
      | inr e ↦ false≢true (sym f.not_true ∙ subst (In xs) e w.1)
    ])

pub entry_forced : (n : ℕ) (known : List (Option (List Literal))) (trail : List Entry) (r : ℕ) (l : Literal) → AreInRange n known → hint_finding known (is_among (falses trail)) r ≡ Forced l → EntryOk n known trail (record { literal = l; reason = Some r })
entry_forced n known trail r l a h = record {
  in_range = forced_in_range known n (is_among (falses trail)) r l a h;
  fresh = forced_new known (falses trail) r l h;
  follows = h;
}

-- ---- how a trail grows

pub trail_push : (n : ℕ) (known : List (Option (List Literal))) (trail : List Entry) (e : Entry) → IsTrail n known trail → EntryOk n known trail e → IsTrail n known (trail ++ e ∷ [])
trail_push n known trail e t o k d h = elim (cases_eq k (length trail)) [
  | inl q ↦ rw (q, get_or-append_seam trail e [] d, take-append_seam trail (e ∷ [])) o
  | inr u ↦ (let b : k < length trail = omega (arith, length-append trail (e ∷ [])) in
      rw (get_or_append_left trail (e ∷ []) d k b, take-append-le k trail (e ∷ []) (omega arith)) (t k d b))
]

pub trail_front : (n : ℕ) (known : List (Option (List Literal))) (trail : List Entry) (j : ℕ) → IsTrail n known trail → IsTrail n known (take j trail)
trail_front n known trail j t k d h =
    let l = length-take j trail in
    rw (get_or-take j trail k d (omega (arith, l)), take_shorter trail k j (omega (arith, l))) (t k d (omega (arith, l)))

-- no two entries have the same variable
pub apart : (n : ℕ) (known : List (Option (List Literal))) (trail : List Entry) → IsTrail n known trail → (j k : ℕ) (d : Entry) → j < k → k < length trail → (get_or trail j d).literal.variable ≡ (get_or trail k d).literal.variable → ⊥
apart n known trail ok j k d h l e =
    let e' = ok k d l in
    let i = has_variable-in (falses (take k trail)) (negation (get_or trail j d).literal) (at_falses_take trail k j d (omega arith) h) in
    false≢true (sym e'.fresh ∙ subst (λ (v : ℕ). has_variable v (falses (take k trail)) ≡ true) e i)

module _ (known : List (Option (List Literal))) where
  pub extends_same : (t : EntryList) → IsTrail t.variables known t.entries → Extends known t t
  extends_same t ok = record {
    variables = refl;
    kept = take_all (length t.entries) t.entries (omega arith);
    trail = ok;
    forced = λ k d from within. absurd (omega arith);
  }

  pub extends_longer : (older t : EntryList) → Extends known older t → length older.entries ≤ length t.entries
  extends_longer older t x = omega (arith, length-take (length older.entries) t.entries, ap length x.kept)

  -- if a trail extends an older one, it still does after one more entry, which is right and has a reason
  pub extends_push : (older t : EntryList) (e : Entry) → Extends known older t → EntryOk t.variables known t.entries e → e.reason ≢ None → Extends known older (record { variables = t.variables; entries = t.entries ++ e ∷ [] })
  extends_push older t e x o r =
      let m : length older.entries ≤ length t.entries = extends_longer older t x in
      record {
        variables = x.variables;
        kept = take-append-le (length older.entries) t.entries (e ∷ []) m ∙ x.kept;
        trail = trail_push t.variables known t.entries e x.trail o;
        forced = λ k d from within. elim (cases_eq k (length t.entries)) [
          | inl q ↦ rw (q, get_or-append_seam t.entries e [] d) r
          | inr u ↦ (let b : k < length t.entries = omega (arith, length-append t.entries (e ∷ [])) in
              rw (get_or_append_left t.entries (e ∷ []) d k b) (x.forced k d from b))
        ];
      }
