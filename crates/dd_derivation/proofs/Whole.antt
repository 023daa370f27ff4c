-- The check of a step after earlier ones, and the check of all steps.
use Rattle.std.proofs.Common.{◌≡◌, ℕ, suc, ◌+◌, ◌<◌, ◌≤◌, Bool, true, false, cond, ◌&&◌, ◌||◌, List, [], ◌∷◌, ◌++◌, map, Option, Some, None, refl, ap, sym, ◌∙◌, length, get_or, take, drop, eqb, arith, drop-cons, add-one}
use Rattle.std.proofs.lemmas.Bool.{eq-eqb, ne_eqb}
use Rattle.std.proofs.lemmas.List.{take_more, map-append, append_assoc, append-nil, drop_all, length-take}
use Rattle.std.proofs.lemmas.Option.{slice_get_read}
use Rattle.dd_clause.specs.declared.clause.Literal.{Literal}
use Rattle.dd_derivation.specs.declared.step.Step.{Step}
use Rattle.dd_derivation.specs.Derivations.{is_empty, is_right, known_after, known_after_steps, refutes_from, derives_from, clauses_before, is_step_right}
use Rattle.dd_derivation.specs.{checking.MarksOf.known_of, lemmas.Numbers.length-before, lemmas.Falses.is_last-drop}
use Rattle.dd_values.specs.lemmas.Booleans.{or_false}

pub all_alive : (cs : List (List Literal)) (alive : List Bool) → length cs ≤ length alive → ((k : ℕ) → k < length alive → get_or alive k false ≡ true) → known_of cs alive ≡ map (λ c. Some c) cs
all_alive [] alive l a = refl
all_alive (c ∷ cs) [] l a = absurd (omega arith)
all_alive (c ∷ cs) (x ∷ alive) l a =
    let h : x ≡ true = a 0 (omega arith) in
    rw (h, all_alive cs alive (omega arith) (λ k b. a (suc k) (omega arith))) refl

known_of-snoc : (cs : List (List Literal)) (c : List Literal) (alive : List Bool) → length cs < length alive → get_or alive (length cs) false ≡ true → known_of (cs ++ c ∷ []) alive ≡ known_of cs alive ++ Some c ∷ []
known_of-snoc [] c [] l a = absurd (omega arith)
known_of-snoc [] c (x ∷ alive) l a = rw a refl
known_of-snoc (y ∷ cs) c [] l a = absurd (omega arith)
known_of-snoc (y ∷ cs) c (x ∷ alive) l a = ap (λ (ys : List (Option (List Literal))). cond x (Some y) None ∷ ys) (known_of-snoc cs c alive (omega arith) a)

before_more : (clauses : List (List Literal)) (steps : List Step) (i : ℕ) (d : Step) → i < length steps → clauses_before clauses (take (i + 1) steps) ≡ clauses_before clauses (take i steps) ++ (get_or steps i d).clause ∷ []
before_more clauses steps i d h =
    ap (λ (xs : List Step). clauses_before clauses xs) (take_more steps i d h)
    ∙ ap (λ (ys : List (List Literal)). clauses ++ ys) (map-append (λ x. x.clause) (take i steps) (get_or steps i d ∷ []))
    ∙ sym (append_assoc clauses (map (λ x. x.clause) (take i steps)) ((get_or steps i d).clause ∷ []))

refutes_at : (n : ℕ) (known : List (Option (List Literal))) (steps : List Step) (i : ℕ) (d : Step) → i < length steps → refutes_from n known (drop i steps) ≡ (is_right n known (get_or steps i d) && ((eqb (i + 1) (length steps) && is_empty (get_or steps i d).clause) || refutes_from n (known_after known (get_or steps i d).deletes ++ Some (get_or steps i d).clause ∷ []) (drop (i + 1) steps)))
refutes_at n known steps i d h = rw (drop-cons steps i d h, add-one i, is_last-drop steps (suc i) (omega arith)) refl

pub before_none : (clauses : List (List Literal)) → clauses_before clauses [] ≡ clauses
before_none clauses = append-nil clauses

empty_test : (xs : List Literal) → is_empty xs ≡ eqb (length xs) 0
empty_test [] = refl
empty_test (x ∷ xs) = sym (ne_eqb (suc (length xs)) 0 (λ e. omega arith))

pub last_step : (n : ℕ) (known : List (Option (List Literal))) (steps : List Step) (i : ℕ) (s : Step) → i < length steps → s ≡ get_or steps i s → i + 1 ≡ length steps → is_right n known s ≡ true → refutes_from n known (drop i steps) ≡ eqb (length s.clause) 0
last_step n known steps i s h g l r =
    let d : drop (i + 1) steps ≡ [] = drop_all (i + 1) steps (omega arith) in
    refutes_at n known steps i s h ∙ rw (← g, r, eq-eqb (i + 1) (length steps) l, d, empty_test s.clause) (or_false (eqb (length s.clause) 0))

pub more_step : (n : ℕ) (known : List (Option (List Literal))) (steps : List Step) (i : ℕ) (s : Step) → i < length steps → s ≡ get_or steps i s → (i + 1 ≡ length steps → ⊥) → is_right n known s ≡ true → refutes_from n known (drop i steps) ≡ refutes_from n (known_after known s.deletes ++ Some s.clause ∷ []) (drop (i + 1) steps)
more_step n known steps i s h g l r = refutes_at n known steps i s h ∙ rw (← g, r, ne_eqb (i + 1) (length steps) l) refl

-- the clauses that are known after one more right step, whose clause is alive
pub known_next : (clauses : List (List Literal)) (steps : List Step) (i : ℕ) (s : Step) (before after : List Bool) → i < length steps → s ≡ get_or steps i s → length clauses + length steps ≤ length after → get_or after (length clauses + i) false ≡ true → known_of (clauses_before clauses (take i steps)) after ≡ known_after (known_of (clauses_before clauses (take i steps)) before) s.deletes → known_of (clauses_before clauses (take (i + 1) steps)) after ≡ known_after (known_of (clauses_before clauses (take i steps)) before) s.deletes ++ Some s.clause ∷ []
known_next clauses steps i s before after lt g room here k =
    let cs = clauses_before clauses (take i steps) in
    let n : length cs ≡ length clauses + i = omega (arith, length-before clauses (take i steps), length-take i steps) in
    let b : clauses_before clauses (take (i + 1) steps) ≡ cs ++ s.clause ∷ [] = before_more clauses steps i s lt ∙ ap (λ (x : Step). cs ++ x.clause ∷ []) (sym g) in
    rw b (known_of-snoc cs s.clause after (omega arith) (rw n here) ∙ ap (λ (ys : List (Option (List Literal))). ys ++ Some s.clause ∷ []) k)

derives_at : (n : ℕ) (known : List (Option (List Literal))) (steps : List Step) (i : ℕ) (s : Step) → i < length steps → s ≡ get_or steps i s → derives_from n known (drop i steps) ≡ ((is_empty s.deletes && is_right n known s) && derives_from n (known ++ Some s.clause ∷ []) (drop (i + 1) steps))
derives_at n known steps i s h g = rw (drop-cons steps i s h, add-one i, ← g) refl

-- one more right step that deletes nothing
pub derives_next : (n : ℕ) (known : List (Option (List Literal))) (steps : List Step) (i : ℕ) (s : Step) → i < length steps → s ≡ get_or steps i s → s.deletes ≡ [] → is_right n known s ≡ true → derives_from n known (drop i steps) ≡ derives_from n (known_after known s.deletes ++ Some s.clause ∷ []) (drop (i + 1) steps)
derives_next n known steps i s h g e r =
    derives_at n known steps i s h g ∙ rw (r, e) refl

-- `all` says that each clause is alive, and `alive` says which clauses are left after the deletions of earlier steps. Given the clauses that are
-- left, `is_right` says of the step at this index what `is_step_right` says.
pub step_right_at : (n : ℕ) (clauses : List (List Literal)) (steps : List Step) (index : ℕ) (s : Step) (all alive : List Bool) → index < length steps → s ≡ get_or steps index s → length all ≡ length clauses + length steps → ((k : ℕ) → k < length all → get_or all k false ≡ true) → ((cs : List (List Literal)) → known_of cs alive ≡ known_after_steps (known_of cs all) (take index steps)) → is_right n (known_of (clauses_before clauses (take index steps)) alive) s ≡ is_step_right n clauses steps index
step_right_at n clauses steps index s all alive lt g l a d =
    let cs = clauses_before clauses (take index steps) in
    let w : length cs ≤ length all = omega (arith, length-before clauses (take index steps), length-take index steps) in
    let e : known_of cs alive ≡ known_after_steps (map (λ c. Some c) cs) (take index steps) = d cs ∙ ap (λ (known : List (Option (List Literal))). known_after_steps known (take index steps)) (all_alive cs all w a) in
    rw (e, slice_get_read steps (length steps) index s refl lt g) refl
