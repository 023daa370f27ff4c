-- A discharge has at most one outcome, since a rule has at most one program along given vectors, and a run stops in only one way.
use Rattle.std.proofs.Common.{◌≡◌, ℕ, ◌+◌, ◌<◌, ◌≤◌, List, ◌++◌, length, get_or, map, drop, inl, inr, sym, ap, subst, ◌∙◌, arith}
use Rattle.std.proofs.lemmas.List.{ext_get_or}
use Rattle.std.specs.{Prelude.◌⊎◌, Prelude.unsigned_abs, List.All, List.Any}
use Rattle.dd_lattice.specs.Place.{Place}
use Rattle.dd_fraction.specs.Exact.{Exact}
use Rattle.dd_formula.specs.LocalRule.{LocalRule}
use Rattle.dd_simplex.specs.{Programs.LinearProgram, Programs.zero_of, Dictionaries.Dictionary}
use Rattle.dd_simplex.specs.Runs.{Ends, Overflows, AtLimit, RunOverflows, RunPivots, column_of, dual_of}
use Rattle.dd_simplex.specs.{Laws.DoesEnd, lemmas.Dictionaries.ends_same}
use Rattle.dd_discharge.specs.declared.bound.Bound.{Bound}
use Rattle.dd_discharge.specs.Denominators.{common_denominator, numerator_over, ArePrinted, HasUnprinted}
use Rattle.dd_discharge.specs.Bounds.{EndsWith, EndsUnprinted, linear_program, IsBoundOf, StopsAtPivots}
use Rattle.dd_discharge.specs.Outcomes.{HasOneOutcome}
use Rattle.dd_rows.specs.{declared.rows.Rows.Rows, Programs.IsProgramOf, Programs.IsLargeProgram}
use Rattle.dd_discharge.proofs.OneProgram.{one_program, never_large}
use Rattle.dd_discharge.specs.Bounds as bounds

-- ---- a run has only one end

record IsSameEnd (p : LinearProgram) (k : ℕ) (a b : DoesEnd p k) : Type 0 where
  value : a.value ≡ b.value
  columns : a.columns ≡ b.columns
  duals : a.duals ≡ b.duals

same_end : (p : LinearProgram) (k : ℕ) (a b : DoesEnd p k) → IsSameEnd p k a b
same_end p k a b =
    let s : a.ends.dictionary ≡ b.ends.dictionary = ends_same _ _ (sym a.ends.ends ∙ b.ends.ends) in
    record {
      value = a.ends.value_is ∙ (ap (λ (d : Dictionary). d.value) s ∙ sym b.ends.value_is);
      columns = ext_get_or zero_of a.columns b.columns (a.ends.width ∙ sym b.ends.width)
          (λ j q.
          let w = a.ends.width in
          let c : j < p.columns = omega (arith, w, q) in
          a.ends.columns_are j c ∙ (ap (λ (d : Dictionary). column_of d j) s ∙ sym (b.ends.columns_are j c)));
      duals = ext_get_or zero_of a.duals b.duals (a.ends.height ∙ sym b.ends.height)
          (λ j q.
          let w = a.ends.height in
          let c : j < length p.rows = omega (arith, w, q) in
          a.ends.duals_are j c ∙ (ap (λ (d : Dictionary). dual_of p d j) s ∙ sym (b.ends.duals_are j c)));
    }

module _ (p : LinearProgram) (k : ℕ) where
  abbrev end_of : (b : Bound) → EndsWith p k b → DoesEnd p k
  end_of b e = record { value = e.value; columns = e.columns; duals = e.duals; ends = e.ends }

  abbrev unprinted_end : EndsUnprinted p k → DoesEnd p k
  unprinted_end e = record { value = e.value; columns = e.columns; duals = e.duals; ends = e.ends }

  same_bound : (b c : Bound) → EndsWith p k b → EndsWith p k c → b ≡ c
  same_bound b c h g =
      let s = same_end p k (end_of b h) (end_of c g) in
      let numerators : b.numerator ≡ c.numerator =
      ap unsigned_abs (h.printed.numerator_is ∙ (ap (λ (a : Exact). a.num) s.value ∙ sym g.printed.numerator_is)) in
      let denominators : b.denominator ≡ c.denominator =
      h.printed.denominator_is ∙ (ap (λ (a : Exact). a.den) s.value ∙ sym g.printed.denominator_is) in
      let both : h.columns ++ h.duals ≡ g.columns ++ g.duals = λ i. s.columns i ++ s.duals i in
      let commons : b.common ≡ c.common = h.printed.common_is ∙ (ap common_denominator both ∙ sym g.printed.common_is) in
      let columns_over : map (numerator_over b.common) (drop 1 h.columns) ≡ map (numerator_over c.common) (drop 1 g.columns) =
      λ i. map (numerator_over (commons i)) (drop 1 (s.columns i)) in
      let duals_over : map (numerator_over b.common) h.duals ≡ map (numerator_over c.common) g.duals =
      λ i. map (numerator_over (commons i)) (s.duals i) in
      let amounts : b.amounts ≡ c.amounts = h.printed.amounts_are ∙ (columns_over ∙ sym g.printed.amounts_are) in
      let duals : b.duals ≡ c.duals = h.printed.duals_are ∙ (duals_over ∙ sym g.printed.duals_are) in
      λ i. record { numerator = numerators i; denominator = denominators i; common = commons i; amounts = amounts i; duals = duals i }

  ends_apart : DoesEnd p k → RunOverflows p k → ⊥
  ends_apart a o = let z : Ends a.ends.dictionary ≡ Overflows = sym a.ends.ends ∙ o in absurd cc

  ends_before : DoesEnd p k → RunPivots p k → ⊥
  ends_before a o = let z : Ends a.ends.dictionary ≡ AtLimit = sym a.ends.ends ∙ o in absurd cc

  over_before : RunOverflows p k → RunPivots p k → ⊥
  over_before a o = let z : Overflows ≡ AtLimit = sym a ∙ o in absurd cc

  bound_not_over : (b : Bound) → EndsWith p k b → RunOverflows p k ⊎ EndsUnprinted p k → ⊥
  bound_not_over b h (inl o) = ends_apart (end_of b h) o
  bound_not_over b h (inr e) =
      let s = same_end p k (end_of b h) (unprinted_end e) in
      let both : h.columns ++ h.duals ≡ e.columns ++ e.duals = λ i. s.columns i ++ s.duals i in
      printed_all (e.columns ++ e.duals) (subst ArePrinted both h.printed.printed) e.unprinted
    where
      printed_all : (xs : List Exact) → ArePrinted xs → HasUnprinted xs → ⊥
      printed_all xs are (inl large) = let few = are.denominator in omega (arith, few, large)
      printed_all xs are (inr (j, a, within, is, large)) =
          let few = are.numerators j a within in
          let same = ap (numerator_over (common_denominator xs)) is in
          omega (arith, few, same, large)

  over_not_stopped : RunOverflows p k ⊎ EndsUnprinted p k → RunPivots p k → ⊥
  over_not_stopped (inl o) stops = over_before o stops
  over_not_stopped (inr e) stops = ends_before (unprinted_end e) stops

-- ---- the outcomes, for the only program

module _ (x : LocalRule) (ws : List ℕ) (radius margin : ℕ) (vs : List Place) (pivots : ℕ) where
  abbrev IsProgram : Rows → Type 0
  IsProgram p = IsProgramOf x ws radius margin vs p

  abbrev run_of : Rows → LinearProgram
  run_of p = linear_program (length vs) p

  at_one : (P : LinearProgram → Type 0) (p q : Rows) → IsProgram p → IsProgram q → P (run_of p) → P (run_of q)
  at_one P p q is are h = subst (λ (r : Rows). P (run_of r)) (one_program x ws radius margin vs p q is are) h

  pub one_outcome : HasOneOutcome x ws radius margin vs pivots
  one_outcome = record {
    one_bound = λ b c h g.
        same_bound (run_of g.program) pivots b c (at_one (λ l. EndsWith l pivots b) h.program g.program h.is_program g.is_program h.ends) g.ends;
    not_large = λ b h large. never_large x ws radius margin vs h.program h.is_program large;
    not_over = λ b h o.
        bound_not_over (run_of o.program) pivots b (at_one (λ l. EndsWith l pivots b) h.program o.program h.is_program o.is_program h.ends) o.over;
    not_stopped = λ b h o.
        ends_before (run_of o.program) pivots
        (end_of (run_of o.program) pivots b (at_one (λ l. EndsWith l pivots b) h.program o.program h.is_program o.is_program h.ends)) o.stops;
    large_alone = λ large o. none large o;
    over_alone = λ o t.
        over_not_stopped (run_of t.program) pivots
        (at_one (λ l. RunOverflows l pivots ⊎ EndsUnprinted l pivots) o.program t.program o.is_program t.is_program o.over) t.stops;
  }
    where
      none : IsLargeProgram x ws radius margin vs → bounds.Overflows x ws radius margin vs pivots ⊎ StopsAtPivots x ws radius margin vs pivots → ⊥
      none large (inl o) = never_large x ws radius margin vs o.program o.is_program large
      none large (inr t) = never_large x ws radius margin vs t.program t.is_program large
