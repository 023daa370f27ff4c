-- The marks and the new numbers fit together as `Plan` in `Kept` requires, so the marked steps refute the clauses, and each of them but the last is
-- used.
use Rattle.std.proofs.Common.{◌≡◌, ℕ, zero, suc, ◌+◌, ◌-◌, ◌<◌, Bool, true, false, cond, ◌||◌, List, [], ◌∷◌, refl, ap, sym, ◌∙◌, subst, length, get_or, drop, leb, inl, inr, ◌⊎◌, arith}
use Rattle.std.proofs.lemmas.Bool.{or_left, or_right, and_from, false≢true, le-leb, lt-leb, cases_lt}
use Rattle.std.proofs.lemmas.List.{get_or-drop, length-drop}
use Rattle.dd_clause.specs.declared.clause.Literal.{Literal}
use Rattle.dd_derivation.specs.{declared.step.Step.Step, Derivations.is_empty, Derivations.refutes}
use Rattle.dd_solver.specs.{searching.Search.all_known, Trimming.is_hint, Trimming.are_used}
use Rattle.dd_solver.specs.searching.Marking.{IsNeeded, IsMarking, numbers_from, renamed, kept_steps}
use Rattle.dd_trail.specs.lemmas.Trails.{get_any}
use Rattle.dd_solver.specs.{lemmas.Known.known_within, lemmas.Known.length-all, lemmas.Renumbering.Agree}
use Rattle.dd_solver.proofs.Kept.{hinted_by, IsPlanned, Plan, refutes_kept, used_kept}

-- the facts of `IsPlanned`, stated for each index of the lists
record Facts (keep : ℕ → Bool) (rename : ℕ → ℕ) (next last : ℕ) (marked : List Bool) (steps : List Step) : Type 0 where
  same : (k : ℕ) → k < length marked → keep (next + k) ≡ get_or marked k false
  number : (k : ℕ) → k < length marked → rename (next + k) ≡ get_or (numbers_from last marked) k 0
  hints : (k : ℕ) (d : Step) → k < length steps → get_or marked k false ≡ true → (h : ℕ) → h < next + k → is_hint h (get_or steps k d).hints ≡ true → keep h ≡ true
  end : (k : ℕ) → suc k ≡ length steps → get_or marked k false ≡ true
  needed : (k : ℕ) → suc k < length steps → get_or marked k false ≡ true → hinted_by (next + k) (drop (suc k) marked) (drop (suc k) steps) ≡ true

facts_tail : (keep : ℕ → Bool) (rename : ℕ → ℕ) (next last : ℕ) (m : Bool) (s : Step) (marked : List Bool) (steps : List Step) → Facts keep rename next last (m ∷ marked) (s ∷ steps) → Facts keep rename (suc next) (cond m (suc last) last) marked steps
facts_tail keep rename next last m s marked steps f = record {
  same = λ k h. ap keep (shift k) ∙ f.same (suc k) (omega arith);
  number = λ k h. ap rename (shift k) ∙ f.number (suc k) (omega arith);
  hints = λ k d a t h b i. f.hints (suc k) d (omega arith) t h (omega arith) i;
  end = λ k e. f.end (suc k) (omega arith);
  needed = λ k a t. subst (λ (i : ℕ). hinted_by i (drop (suc k) marked) (drop (suc k) steps) ≡ true) (sym (shift k)) (f.needed (suc k) (omega arith) t);
}
  where
    shift : (k : ℕ) → suc next + k ≡ next + suc k
    shift k = omega arith

plan : (keep : ℕ → Bool) (rename : ℕ → ℕ) (next last : ℕ) (marked : List Bool) (steps : List Step) → Facts keep rename next last marked steps → Plan keep rename next last marked steps
plan keep rename next last [] steps f = tt
plan keep rename next last (m ∷ marked) [] f = tt
plan keep rename next last (m ∷ marked) (s ∷ steps) f = (here, plan keep rename (suc next) (cond m (suc last) last) marked steps (facts_tail keep rename next last m s marked steps f))
  where
    first : next + 0 ≡ next
    first = omega arith

    more : (x : List Step) → (is_empty x ≡ true) ⊎ (0 < length x)
    more [] = inl refl
    more (y ∷ x) = inr (omega arith)

    here : IsPlanned keep rename next last m s marked steps
    here = record {
      same = sym (ap keep first) ∙ f.same 0 (omega arith);
      number = λ t. sym (ap rename first) ∙ f.number 0 (omega arith) ∙ rw t refl;
      hints = λ t h b i. f.hints 0 s (omega arith) t h (omega arith) i;
      end = λ e. elim (more steps) [ inl a ↦ f.end 0 (ends steps e) | inr b ↦ f.end 0 (ends steps e) ];
      needed = λ t. elim (more steps) [ inl a ↦ inl a | inr b ↦ inr (subst (λ (i : ℕ). hinted_by i marked steps ≡ true) first (f.needed 0 (omega arith) t)) ];
    }
      where
        ends : (x : List Step) → is_empty x ≡ true → 1 ≡ suc (length x)
        ends [] e = refl
        ends (y ∷ x) e = absurd (false≢true e)

hinted_at : (number : ℕ) (marked : List Bool) (steps : List Step) (k : ℕ) (d : Step) → get_or marked k false ≡ true → k < length marked → k < length steps → is_hint number (get_or steps k d).hints ≡ true → hinted_by number marked steps ≡ true
hinted_at number [] steps k d t a b h = absurd (omega arith)
hinted_at number (m ∷ marked) [] k d t a b h = absurd (omega arith)
hinted_at number (m ∷ marked) (s ∷ steps) zero d t a b h = or_left _ _ (and_from _ _ t h)
hinted_at number (m ∷ marked) (s ∷ steps) (suc k) d t a b h = or_right _ _ (hinted_at number marked steps k d t (omega arith) (omega arith) h)

abbrev is_kept : ℕ → List Bool → ℕ → Bool
is_kept clauses marked number = leb number clauses || get_or marked (number - clauses - 1) false

none : Step
none = record { clause = []; hints = []; deletes = [] }

length-numbers : (last : ℕ) (marked : List Bool) → length (numbers_from last marked) ≡ length marked
length-numbers last [] = refl
length-numbers last (m ∷ marked) = ap suc (length-numbers (cond m (suc last) last) marked)

facts : (clauses : ℕ) (marked : List Bool) (steps : List Step) → IsMarking clauses 0 steps marked → Facts (is_kept clauses marked) (renamed clauses (numbers_from clauses marked)) (suc clauses) clauses marked steps
facts clauses marked steps m = record {
  same = λ k h. rw (past k, place k) refl;
  number = λ k h. rw (past k, place k) (get_any (numbers_from clauses marked) k (suc clauses + k) 0 (omega (arith, length-numbers clauses marked)));
  hints = λ k d a t h b i. elim (cases_lt clauses h) [
    | inl l ↦ or_right _ _ (m.closed k (h - clauses - 1) d (omega arith) a (omega arith) t (subst (λ (x : ℕ). is_hint x (get_or steps k d).hints ≡ true) (number h l) i))
    | inr l ↦ or_left _ _ (le-leb h clauses l)
  ];
  end = λ k e. m.last k e;
  needed = λ k a t. needed k (m.needed k a t);
}
  where
    past : (k : ℕ) → leb (suc clauses + k) clauses ≡ false
    past k = lt-leb (suc clauses + k) clauses (omega arith)

    place : (k : ℕ) → suc clauses + k - clauses - 1 ≡ k
    place k = omega arith

    number : (h : ℕ) → clauses < h → h ≡ clauses + suc (h - clauses - 1)
    number h l = omega arith

    needed : (k : ℕ) → IsNeeded 0 k (clauses + suc k) steps marked → hinted_by (suc clauses + k) (drop (suc k) marked) (drop (suc k) steps) ≡ true
    needed k n =
        let i = n.at - suc k in
        let e : suc k + i ≡ n.at = let l = n.later in omega arith in
        let w = n.within in
        let t : get_or (drop (suc k) marked) i false ≡ true = get_or-drop (suc k) marked i false ∙ ap (λ (j : ℕ). get_or marked j false) e ∙ n.is_marked in
        let s : get_or (drop (suc k) steps) i none ≡ get_or steps n.at none = get_or-drop (suc k) steps i none ∙ ap (λ (j : ℕ). get_or steps j none) e in
        let h : is_hint (suc clauses + k) (get_or (drop (suc k) steps) i none).hints ≡ true = rw s (subst (λ (x : ℕ). is_hint x (get_or steps n.at none).hints ≡ true) (let q : clauses + suc k ≡ suc clauses + k = omega arith in q) (n.hinted none)) in
        hinted_at (suc clauses + k) (drop (suc k) marked) (drop (suc k) steps) i none t (omega (arith, length-drop (suc k) marked, m.as_many, e, w)) (omega (arith, length-drop (suc k) steps, e, w)) h

agree : (clauses : List (List Literal)) (marked : List Bool) (numbers : List ℕ) → Agree (is_kept (length clauses) marked) (renamed (length clauses) numbers) (all_known clauses) (all_known clauses)
agree clauses marked numbers h x k e =
    let w = known_within (all_known clauses) x h e in
    let l : leb h (length clauses) ≡ true = le-leb h (length clauses) (omega (arith, length-all clauses, w)) in
    (x, rw l e, λ p. refl)

-- if the steps refute the clauses, so do the marked steps with their new numbers
pub marked_refute : (n : ℕ) (clauses : List (List Literal)) (steps : List Step) (marked : List Bool) → IsMarking (length clauses) 0 steps marked → refutes n clauses steps ≡ true → refutes n clauses (kept_steps (renamed (length clauses) (numbers_from (length clauses) marked)) marked steps) ≡ true
marked_refute n clauses steps marked m r =
    let c = length clauses in
    let numbers = numbers_from c marked in
    let p = plan (is_kept c marked) (renamed c numbers) (suc c) c marked steps (facts c marked steps m) in
    refutes_kept n (is_kept c marked) (renamed c numbers) (suc c) c marked steps (all_known clauses) (all_known clauses) m.as_many (ap suc (sym (length-all clauses))) (sym (length-all clauses)) p (agree clauses marked numbers) r

-- each marked step but the last is used
pub marked_used : (clauses : ℕ) (steps : List Step) (marked : List Bool) → IsMarking clauses 0 steps marked → are_used (suc clauses) (kept_steps (renamed clauses (numbers_from clauses marked)) marked steps) ≡ true
marked_used clauses steps marked m =
    let numbers = numbers_from clauses marked in
    used_kept (is_kept clauses marked) (renamed clauses numbers) (suc clauses) clauses marked steps (plan (is_kept clauses marked) (renamed clauses numbers) (suc clauses) clauses marked steps (facts clauses marked steps m))
