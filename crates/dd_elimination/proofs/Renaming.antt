-- If the variables of clauses and steps are renamed, a refutation stays a refutation.
use Rattle.std.proofs.Common.{◌≡◌, ℕ, zero, suc, ◌≤◌, nat_le, ◌==◌, Bool, true, false, cond, not, ◌&&◌, ◌||◌, List, [], ◌∷◌, ◌++◌, map, Option, Some, None, is_some, refl, ap, sym, ◌∙◌, subst, set, inl, inr}
use Rattle.std.proofs.lemmas.Bool.{cases_Bool, and_parts, and_from, or_cases, false≢true}
use Rattle.std.proofs.lemmas.List.{map-append}
use Rattle.std.specs.Prelude.{slice_get, slice_set}
use Rattle.std.specs.{List.filter, List.list_all, List.list_any, Option.option_map_or, Option.option_and_then}
use Rattle.dd_clause.specs.{declared.clause.Literal.Literal, Clauses.negation}
use Rattle.dd_derivation.specs.declared.step.Step.{Step}
use Rattle.dd_derivation.specs.declared.propagation.Finding.{Finding}
use Rattle.dd_derivation.specs.declared.propagation.Finding.TheVariants.{Falsified, Forced, Open}
use Rattle.dd_derivation.specs.Derivations.{is_empty, same_literal, is_among, finding_of, finding, clause_of, without, hint_finding, follow, is_conflict, are_deletable, known_after, is_literal_in_range, has_variable, is_proper, is_right, refutes_from, refutes}
use Rattle.dd_values.specs.lemmas.Booleans.{or_true}
use Rattle.dd_solver.specs.lemmas.Known.{Known}
use Rattle.dd_elimination.specs.Renaming.{renamed, renamed_step}

-- f gives different variables different names, and gives each of the variables 1..m a name in 1..n
pub record IsRenaming (f : ℕ → ℕ) (m n : ℕ) : Type 0 where
  pub same : (a b : ℕ) → (f a == f b) ≡ (a == b)
  pub within : (v : ℕ) → nat_le 1 v ≡ true → nat_le v m ≡ true → (nat_le 1 (f v) ≡ true) × (nat_le (f v) n ≡ true)

module _ (f : ℕ → ℕ) (m n : ℕ) (i : IsRenaming f m n) where
  same_renamed : (a b : Literal) → same_literal (renamed f a) (renamed f b) ≡ same_literal a b
  same_renamed a b = rw (i.same a.variable b.variable) refl

  among_renamed : (ls : List Literal) (l : Literal) → is_among (map (renamed f) ls) (renamed f l) ≡ is_among ls l
  among_renamed [] l = refl
  among_renamed (x ∷ ls) l = rw (same_renamed l x, among_renamed ls l) refl

  all_renamed : (ls : List Literal) (l : Literal) → list_all (same_literal (renamed f l)) (map (renamed f) ls) ≡ list_all (same_literal l) ls
  all_renamed [] l = refl
  all_renamed (x ∷ ls) l = rw (same_renamed l x, all_renamed ls l) refl

  abbrev renamed_finding : Finding → Finding
  renamed_finding Falsified = Falsified
  renamed_finding (Forced l) = Forced (renamed f l)
  renamed_finding Open = Open

  -- q calls a renamed literal false exactly when p calls the literal false
  module _ (p q : Literal → Bool) (e : (l : Literal) → q (renamed f l) ≡ p l) where
    left_renamed : (c : List Literal) → filter (λ l. not (q l)) (map (renamed f) c) ≡ map (renamed f) (filter (λ l. not (p l)) c)
    left_renamed [] = refl
    left_renamed (x ∷ c) = elim (cases_Bool (p x)) [
      | inl t ↦ rw (e x, t, left_renamed c) refl
      | inr t ↦ rw (e x, t, left_renamed c) refl
    ]

    forced_renamed : (b : Bool) (l : Literal) → cond b (Forced (renamed f l)) Open ≡ renamed_finding (cond b (Forced l) Open)
    forced_renamed true l = refl
    forced_renamed false l = refl

    finding_of_renamed : (c : List Literal) → finding_of q (map (renamed f) c) ≡ renamed_finding (finding_of p c)
    finding_of_renamed [] = refl
    finding_of_renamed (l ∷ c) = rw (all_renamed c l, e (negation l)) (forced_renamed (list_all (same_literal l) c && not (p (negation l))) l)

    finding_renamed : (c : List Literal) → finding q (map (renamed f) c) ≡ renamed_finding (finding p c)
    finding_renamed c = ap (finding_of q) (left_renamed c) ∙ finding_of_renamed (filter (λ l. not (p l)) c)

  -- the clause with its variables renamed, if there is one
  abbrev renamed_clause : Option (List Literal) → Option (List Literal)
  renamed_clause None = None
  renamed_clause (Some c) = Some (map (renamed f) c)

  get_renamed : (known : Known) (k : ℕ) → option_and_then (λ c. c) (slice_get (map renamed_clause known) k) ≡ renamed_clause (option_and_then (λ c. c) (slice_get known k))
  get_renamed [] k = refl
  get_renamed (None ∷ known) zero = refl
  get_renamed (Some c ∷ known) zero = refl
  get_renamed (c ∷ known) (suc k) = get_renamed known k

  clause_renamed : (known : Known) (h : ℕ) → clause_of (map renamed_clause known) h ≡ renamed_clause (clause_of known h)
  clause_renamed known zero = refl
  clause_renamed known (suc k) = get_renamed known k

  hint_renamed : (known : Known) (falses : List Literal) (h : ℕ) → hint_finding (map renamed_clause known) (is_among (map (renamed f) falses)) h ≡ renamed_finding (hint_finding known (is_among falses) h)
  hint_renamed known falses h = ap (λ (o : Option (List Literal)). option_map_or (finding (is_among (map (renamed f) falses))) o Open) (clause_renamed known h) ∙ at (clause_of known h)
    where
      at : (o : Option (List Literal)) → option_map_or (finding (is_among (map (renamed f) falses))) (renamed_clause o) Open ≡ renamed_finding (option_map_or (finding (is_among falses)) o Open)
      at None = refl
      at (Some c) = finding_renamed (is_among falses) (is_among (map (renamed f) falses)) (among_renamed falses) c

  conflict_renamed : (known : Known) (falses : List Literal) (hints : List ℕ) → is_conflict (map renamed_clause known) (map (renamed f) falses) hints ≡ is_conflict known falses hints
  conflict_renamed known falses [] = refl
  conflict_renamed known falses (h ∷ hints) =
      ap (λ (x : Finding). follow x (is_empty hints) (λ l. is_conflict (map renamed_clause known) (negation l ∷ map (renamed f) falses) hints)) (hint_renamed known falses h)
      ∙ at (hint_finding known (is_among falses) h) (λ l. conflict_renamed known (negation l ∷ falses) hints)
    where
      at : (x : Finding) → ((l : Literal) → is_conflict (map renamed_clause known) (map (renamed f) (negation l ∷ falses)) hints ≡ is_conflict known (negation l ∷ falses) hints) → follow (renamed_finding x) (is_empty hints) (λ l. is_conflict (map renamed_clause known) (negation l ∷ map (renamed f) falses) hints) ≡ follow x (is_empty hints) (λ l. is_conflict known (negation l ∷ falses) hints)
      at Falsified next = refl
      at (Forced l) next = next l
      at Open next = refl

  has_renamed : (v : ℕ) (ls : List Literal) → has_variable (f v) (map (renamed f) ls) ≡ has_variable v ls
  has_renamed v [] = refl
  has_renamed v (x ∷ ls) = rw (i.same x.variable v, has_renamed v ls) refl

  proper_renamed : (c : List Literal) → is_proper m c ≡ true → is_proper n (map (renamed f) c) ≡ true
  proper_renamed [] h = refl
  proper_renamed (l ∷ c) h =
      let a = and_parts (is_literal_in_range m l && not (has_variable l.variable c)) (is_proper m c) h in
      let b = and_parts (is_literal_in_range m l) (not (has_variable l.variable c)) a.0 in
      let r = and_parts (nat_le 1 l.variable) (nat_le l.variable m) b.0 in
      let w = i.within l.variable r.0 r.1 in
      and_from _ _ (and_from _ _ (and_from _ _ w.0 w.1) (rw (has_renamed l.variable c) b.1)) (proper_renamed c a.1)

  set_renamed : (known : Known) (k : ℕ) → set (map renamed_clause known) k None ≡ map renamed_clause (set known k None)
  set_renamed [] k = refl
  set_renamed (c ∷ known) zero = refl
  set_renamed (c ∷ known) (suc k) = ap (λ (ks : Known). renamed_clause c ∷ ks) (set_renamed known k)

  without_renamed : (known : Known) (d : ℕ) → without (map renamed_clause known) d ≡ map renamed_clause (without known d)
  without_renamed known zero = refl
  without_renamed known (suc k) = set_renamed known k

  some_renamed : (o : Option (List Literal)) → is_some (renamed_clause o) ≡ is_some o
  some_renamed None = refl
  some_renamed (Some c) = refl

  deletable_renamed : (known : Known) (ds : List ℕ) → are_deletable (map renamed_clause known) ds ≡ are_deletable known ds
  deletable_renamed known [] = refl
  deletable_renamed known (d ∷ ds) = rw (clause_renamed known d, some_renamed (clause_of known d), without_renamed known d, deletable_renamed (without known d) ds) refl

  after_renamed : (known : Known) (ds : List ℕ) → known_after (map renamed_clause known) ds ≡ map renamed_clause (known_after known ds)
  after_renamed known [] = refl
  after_renamed known (d ∷ ds) = ap (λ (ks : Known). known_after ks ds) (without_renamed known d) ∙ after_renamed (without known d) ds

  right_renamed : (known : Known) (s : Step) → is_right m known s ≡ true → is_right n (map renamed_clause known) (renamed_step f s) ≡ true
  right_renamed known s h =
      let a = and_parts (is_proper m s.clause) (is_conflict known s.clause s.hints && are_deletable known s.deletes) h in
      let b = and_parts (is_conflict known s.clause s.hints) (are_deletable known s.deletes) a.1 in
      and_from _ _ (proper_renamed s.clause a.0) (and_from _ _ (conflict_renamed known s.clause s.hints ∙ b.0) (deletable_renamed known s.deletes ∙ b.1))

  empty_map : {A B : Type 0} (g : A → B) (xs : List A) → is_empty (map g xs) ≡ is_empty xs
  empty_map g [] = refl
  empty_map g (x ∷ xs) = refl

  refutes_from_renamed : (known : Known) (steps : List Step) → refutes_from m known steps ≡ true → refutes_from n (map renamed_clause known) (map (renamed_step f) steps) ≡ true
  refutes_from_renamed known [] h = h
  refutes_from_renamed known (s ∷ steps) h =
      let a = and_parts (is_right m known s) _ h in
      let next = map-append renamed_clause (known_after known s.deletes) (Some s.clause ∷ []) in
      and_from _ _ (right_renamed known s a.0)
      (rw (empty_map (renamed_step f) steps, empty_map (renamed f) s.clause, after_renamed known s.deletes, sym next) (elim (or_cases (is_empty steps && is_empty s.clause) _ a.1) [
        | inl e ↦ rw e refl
        | inr e ↦ rw (refutes_from_renamed (known_after known s.deletes ++ Some s.clause ∷ []) steps e) (or_true (is_empty steps && is_empty s.clause))
      ]))

  all_known_renamed : (cs : List (List Literal)) → map (λ c. Some c) (map (map (renamed f)) cs) ≡ map renamed_clause (map (λ c. Some c) cs)
  all_known_renamed [] = refl
  all_known_renamed (c ∷ cs) = ap (λ (ks : Known). Some (map (renamed f) c) ∷ ks) (all_known_renamed cs)

  -- if steps refute clauses, the renamed steps refute the renamed clauses
  pub refutes_renaming : (clauses : List (List Literal)) (steps : List Step) → refutes m clauses steps ≡ true → refutes n (map (map (renamed f)) clauses) (map (renamed_step f) steps) ≡ true
  refutes_renaming clauses steps h = rw (all_known_renamed clauses) (refutes_from_renamed (map (λ c. Some c) clauses) steps h)
