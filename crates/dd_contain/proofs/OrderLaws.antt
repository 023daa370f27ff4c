-- If an ascending list has exactly the periods within the limits, its first item that satisfies a condition comes before all others that do. If none
-- of its items does, no periods within the limits do.
use Rattle.std.proofs.Common.{◌≡◌, ℕ, ◌<◌, List, length, get_or, Some, refl, sym, subst, inl, inr, Contains}
use Rattle.std.proofs.lemmas.Bool.{cases_order}
use Rattle.std.proofs.lemmas.Cmp.{nat_cmp_total, on_total, then_total, tied_itself}
use Rattle.std.proofs.lemmas.Map.Keys.{Less-from_sorted}
use Rattle.std.proofs.lemmas.Option.{slice_get_within, slice_get_read, get_or_from_slice_get}
use Rattle.std.specs.{Prelude.slice_get, List.Sorted.IsStrictlySortedBy, Cmp.IsTotalOrder}
use Rattle.dd_pattern.specs.declared.periods.Periods.{Periods}
use Rattle.dd_pattern.specs.Periods.{periods_volume, periods_cmp, IsBefore, AreAllWithin}
use Rattle.dd_contain.specs.{Decided.IsFirst, Decided.NoneWithin, searching.Listed.NoneBefore, searching.Listed.IsFirstOf}

periods_total : IsTotalOrder periods_cmp
periods_total =
    then_total
    (then_total
    (then_total (then_total (on_total periods_volume nat_cmp_total) (on_total (λ (p : Periods). p.x) nat_cmp_total)) (on_total (λ (p : Periods). p.y) nat_cmp_total))
    (on_total (λ (p : Periods). p.z) nat_cmp_total))
    (on_total (λ (p : Periods). p.shear) nat_cmp_total)

-- no periods come before themselves
never_itself : (p : Periods) → IsBefore p p → ⊥
never_itself p before = let tied = tied_itself periods_total p in absurd (cc (tied, before))

-- if p comes before q, then q doesn't come before p
never_back : (p q : Periods) → IsBefore p q → IsBefore q p → ⊥
never_back p q one other = never_itself p (periods_total.trans p q p one other)

-- each item of the list stands at some index
listed : (ps : List Periods) (q : Periods) → Contains ps q → (k : ℕ) × (k < length ps) × (slice_get ps k ≡ Some q)
listed ps q there = (there.0, there.1, slice_get_read ps (length ps) there.0 q refl there.1 (sym there.2))

-- what stands at an index is an item of the list
item : (ps : List Periods) (k : ℕ) (q : Periods) → slice_get ps k ≡ Some q → Contains ps q
item ps k q stands = (k, slice_get_within ps k q stands, get_or_from_slice_get ps k q q stands)

module _ (T : Periods → Type 0) (d most : ℕ) (ps : List Periods) (ascending : IsStrictlySortedBy periods_cmp ps) (all : AreAllWithin d most ps) where
  pub none_from : NoneBefore T ps (length ps) → NoneWithin T d most
  none_from none q within shows =
      let at = listed ps q ((all q).1 within) in
      none at.0 q at.1 at.2 shows

  pub first_from : (p : Periods) → IsFirstOf T ps p → IsFirst T d most p
  first_from p first = record {
    within = (all p).0 (item ps first.place p first.stands);
    shows = first.shows;
    first = λ q within before shows.
        (let at = listed ps q ((all q).1 within) in
        let below : first.place < length ps = slice_get_within ps first.place p first.stands in
        elim (cases_order at.0 first.place) [
          | inl same ↦
              (let mine : slice_get ps at.0 ≡ Some p = subst (λ i. slice_get ps i ≡ Some p) (sym same) first.stands in
              let theirs = at.2 in
              let alike : q ≡ p = cc (mine, theirs) in
              never_itself p (subst (λ r. IsBefore r p) alike before))
          | inr apart ↦ (elim apart [
            | inl less ↦ first.before at.0 q less at.2 shows
            | inr more ↦
                (let up = Less-from_sorted periods_cmp ps first.place at.0 p ascending more at.1 in
                let mine : get_or ps first.place p ≡ p = get_or_from_slice_get ps first.place p p first.stands in
                let theirs : get_or ps at.0 p ≡ q = get_or_from_slice_get ps at.0 q p at.2 in
                let after : IsBefore p q = subst (λ r. IsBefore r q) mine (subst (λ r. IsBefore (get_or ps first.place p) r) theirs up) in
                never_back p q after before)
          ])
        ]);
  }
