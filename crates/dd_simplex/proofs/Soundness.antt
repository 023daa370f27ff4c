-- The laws of runs.
use Rattle.std.proofs.Common.{◌≡◌, ℕ, zero, suc, ◌+◌, ◌<◌, List, [], ◌∷◌, length, Bool, true, false, cond, Option, Some, None, ◌⊎◌, inl, inr, ⊎_elim, refl, sym, ap, subst, ◌∙◌, arith}
use Rattle.std.proofs.lemmas.List.{ext_get_or}
use Rattle.dd_fraction.specs.Exact.{Exact}
use Rattle.dd_simplex.specs.Programs.{LinearProgram, IsProgram, fraction_at, zero_of}
use Rattle.dd_simplex.specs.Dictionaries.{Dictionary, count, start_dictionary, pivoted}
use Rattle.dd_simplex.specs.Runs.{entering, leaving, does_iteration_fit, Stop, Ends, Overflows, AtLimit, Unbounded, iteration, iterate_or_end, run, stop_of, RunOverflows, RunPivots, column_of, dual_of}
use Rattle.dd_simplex.specs.Laws.{DoesEnd, HasOneStop, dictionary_after, after_iteration, leaving_for, IsSoundDictionary}
use Rattle.dd_simplex.proofs.Endings.{reduced_column, reduced_value, combined_column, combined_bound}
use Rattle.dd_simplex.proofs.Reaching.{IsReached, entering_is, leaving_is, reached_start, reached_pivot}
use Rattle.dd_simplex.proofs.Unbounded.{always_leaves}
use Rattle.dd_simplex.specs.lemmas.Dictionaries.{ends_same}

-- ---- how a run stops
never_unbounded : (p : LinearProgram) (k : ℕ) (d : Dictionary) → IsProgram p → IsReached p d → run (count p) k d ≡ Unbounded → ⊥
never_unbounded p zero d g r h = at (entering (count p) d) h
  where
    at : (o : Option ℕ) → iterate_or_end (λ _. AtLimit) d o ≡ Unbounded → ⊥
    at None h = absurd cc
    at (Some e) h = absurd cc
never_unbounded p (suc k) d g r h = at (λ (t : Dictionary) (q : IsReached p t). never_unbounded p k t g q) (entering (count p) d) refl h
  where
    going : ((t : Dictionary) → IsReached p t → run (count p) k t ≡ Unbounded → ⊥) → (e s : ℕ) → entering (count p) d ≡ Some e → leaving (count p) d e ≡ Some s → (b : Bool)
        → cond b (run (count p) k (pivoted d e s)) Overflows ≡ Unbounded → ⊥
    going again e s n l true h = again (pivoted d e s) (reached_pivot p d e s r (leaving_is (count p) d e s (entering_is (count p) d e n) l)) h
    going again e s n l false h = absurd cc

    under : ((t : Dictionary) → IsReached p t → run (count p) k t ≡ Unbounded → ⊥) → (e : ℕ) → entering (count p) d ≡ Some e → (o : Option ℕ) → leaving (count p) d e ≡ o
        → iteration (run (count p) k) (count p) d e o ≡ Unbounded → ⊥
    under again e n None l h = always_leaves p d e g r (entering_is (count p) d e n) l
    under again e n (Some s) l h = going again e s n l (does_iteration_fit (count p) d e s) h

    at : ((t : Dictionary) → IsReached p t → run (count p) k t ≡ Unbounded → ⊥) → (o : Option ℕ) → entering (count p) d ≡ o
        → iterate_or_end (λ e. iteration (run (count p) k) (count p) d e (leaving (count p) d e)) d o ≡ Unbounded → ⊥
    at again None n h = absurd cc
    at again (Some e) n h = under again e n (leaving (count p) d e) refl h

-- the n values f i, f (i + 1), .. of a function f
listed : (ℕ → Exact) → ℕ → ℕ → List Exact
listed f i zero = []
listed f i (suc n) = f i ∷ listed f (suc i) n

listed_size : (f : ℕ → Exact) (i n : ℕ) → length (listed f i n) ≡ n
unfolding listed
listed_size f i zero = refl
listed_size f i (suc n) = ap suc (listed_size f (suc i) n)

listed_at : (f : ℕ → Exact) (i n j : ℕ) → j < n → fraction_at (listed f i n) j ≡ f (i + j)
unfolding listed
listed_at f i zero j p = absurd (omega (arith, p))
listed_at f i (suc n) zero p = ap f (same i)
  where
    same : (i : ℕ) → i ≡ i + 0
    same i = omega arith
listed_at f i (suc n) (suc j) p = listed_at f (suc i) n j (omega (arith, p)) ∙ ap f (moved i j)
  where
    moved : (i j : ℕ) → suc i + j ≡ i + suc j
    moved i j = omega arith

ends_at : (p : LinearProgram) (k : ℕ) (d : Dictionary) → stop_of p k ≡ Ends d → DoesEnd p k
ends_at p k d h = record {
  value = d.value;
  columns = listed (column_of d) 0 p.columns;
  duals = listed (dual_of p d) 0 (length p.rows);
  ends = record {
    dictionary = d;
    ends = h;
    value_is = refl;
    width = listed_size (column_of d) 0 p.columns;
    columns_are = λ j q. listed_at (column_of d) 0 p.columns j q ∙ ap (column_of d) (front j);
    height = listed_size (dual_of p d) 0 (length p.rows);
    duals_are = λ j q. listed_at (dual_of p d) 0 (length p.rows) j q ∙ ap (dual_of p d) (front j);
  };
}
  where
    front : (j : ℕ) → 0 + j ≡ j
    front j = omega arith

pub one_stop_of : (p : LinearProgram) (k : ℕ) → IsProgram p → HasOneStop p k
one_stop_of p k g = record {
  stops = by (stop_of p k) refl;
  end_alone = λ a h. ⊎_elim (λ (o : RunOverflows p k). let z : Ends a.ends.dictionary ≡ Overflows = sym a.ends.ends ∙ o in absurd cc) (λ (o : RunPivots p k). let z : Ends a.ends.dictionary ≡ AtLimit = sym a.ends.ends ∙ o in absurd cc) h;
  overflow_alone = λ a b. let z : Overflows ≡ AtLimit = sym a ∙ b in absurd cc;
  same_end = λ a b.
      let s : a.ends.dictionary ≡ b.ends.dictionary = ends_same _ _ (sym a.ends.ends ∙ b.ends.ends) in (
        a.ends.value_is ∙ (ap (λ (d : Dictionary). d.value) s ∙ sym b.ends.value_is),
        ext_get_or zero_of a.columns b.columns (a.ends.width ∙ sym b.ends.width)
            (λ j q. let w = a.ends.width in let c : j < p.columns = omega (arith, w, q) in a.ends.columns_are j c ∙ (ap (λ (d : Dictionary). column_of d j) s ∙ sym (b.ends.columns_are j c))),
        ext_get_or zero_of a.duals b.duals (a.ends.height ∙ sym b.ends.height)
            (λ j q. let w = a.ends.height in let c : j < length p.rows = omega (arith, w, q) in a.ends.duals_are j c ∙ (ap (λ (d : Dictionary). dual_of p d j) s ∙ sym (b.ends.duals_are j c))),
      );
}
  where
    by : (s : Stop) → stop_of p k ≡ s → DoesEnd p k ⊎ (RunOverflows p k ⊎ RunPivots p k)
    by (Ends d) h = inl (ends_at p k d h)
    by Overflows h = inr (inl h)
    by AtLimit h = inr (inr h)
    by Unbounded h = absurd (never_unbounded p k (start_dictionary p) g (reached_start p g) h)

-- ---- the dictionaries of a run
pub reached_after : (p : LinearProgram) (k : ℕ) (d t : Dictionary) → IsReached p d → dictionary_after (count p) k d ≡ Some t → IsReached p t
reached_after p zero d t r h = let s : d ≡ t = cc in subst (IsReached p) s r
reached_after p (suc k) d t r h = at (λ (u : Dictionary) (q : IsReached p u) (l : dictionary_after (count p) k u ≡ Some t). reached_after p k u t q l) (entering (count p) d) refl h
  where
    under : ((u : Dictionary) → IsReached p u → dictionary_after (count p) k u ≡ Some t → IsReached p t) → (e : ℕ) → entering (count p) d ≡ Some e → (o : Option ℕ) → leaving (count p) d e ≡ o
        → after_iteration (dictionary_after (count p) k) d (Some e) o ≡ Some t → IsReached p t
    under again e n None l h = absurd cc
    under again e n (Some s) l h = again (pivoted d e s) (reached_pivot p d e s r (leaving_is (count p) d e s (entering_is (count p) d e n) l)) h

    at : ((u : Dictionary) → IsReached p u → dictionary_after (count p) k u ≡ Some t → IsReached p t) → (o : Option ℕ) → entering (count p) d ≡ o
        → after_iteration (dictionary_after (count p) k) d o (leaving_for (count p) d o) ≡ Some t → IsReached p t
    at again None n h = absurd cc
    at again (Some e) n h = under again e n (leaving (count p) d e) refl h

pub sound : (p : LinearProgram) (k : ℕ) (d : Dictionary) → IsProgram p → dictionary_after (count p) k (start_dictionary p) ≡ Some d → IsSoundDictionary p d
sound p k d g h =
    let r = reached_after p k (start_dictionary p) d (reached_start p g) h in
    record {
      rows = λ v q b. record { columns = combined_column p d g r v q b; bound = combined_bound p d g r v q b };
      objective = record { columns = reduced_column p d g r; value = reduced_value p d g r };
      bounds = r.bounds;
      leaves = λ e n l. always_leaves p d e g r (entering_is (count p) d e n) l;
    }
