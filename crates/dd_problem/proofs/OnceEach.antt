-- Sorted cells without repeats: each cell that equals the one before it is dropped.
use Rattle.std.proofs.Common.{◌≡◌, Bool, true, false, List, refl, ap, sym, subst, ◌∙◌}
use Rattle.std.proofs.lemmas.List.Kept.{Contains-dedup, Contains-from_dedup, IsStrictlySortedBy-dedup}
use Rattle.std.proofs.lemmas.List.Sorted.{Contains-permutation, IsPermutation-sym}
use Rattle.std.specs.{Ordering.is_eq, Ordering.eq_by_cmp, List.Contains, List.dedup}
use Rattle.std.specs.{List.Sorted.IsPermutation, List.Sorted.IsSorted, List.Sorted.IsStrictlySortedBy, Cmp.IsEquivalence, Cmp.tied_itself}
use Rattle.dd_lattice.specs.{InOrder.in_order, Order.cell_cmp, declared.position.Cell.Cell, lemmas.InOrderLaws.cells_equal}
use Rattle.dd_topology.specs.lemmas.OrderLaws.{cell_total, is-in_order}
use Rattle.dd_values.specs.lemmas.Booleans.{equal_from}

module _ (E : Cell → Cell → Bool) (ties : (x y : Cell) → E x y ≡ eq_by_cmp cell_cmp x y) where
  same : (x y : Cell) → E x y ≡ true → x ≡ y
  same x y h = cells_equal x y (equal_from (cell_cmp x y) (sym (ties x y) ∙ h))

  itself : (x : Cell) → E x x ≡ true
  itself x = ties x x ∙ ap is_eq (tied_itself cell_total x)

  turned : (x y : Cell) (a b : Bool) → E x y ≡ a → E y x ≡ b → a ≡ b
  turned x y true true p q = refl
  turned x y true false p q = sym (ap (λ w. E w x) (sym (same x y p)) ∙ itself x) ∙ q
  turned x y false true p q = sym p ∙ (ap (λ w. E w y) (sym (same y x q)) ∙ itself y)
  turned x y false false p q = refl

  alike : IsEquivalence E
  alike = record {
    refl = itself;
    symm = λ x y. turned x y (E x y) (E y x) refl refl;
    congr = λ x y z h. ap (λ w. E w z) (same x y h);
  }

  kept : (cs sorted new : List Cell) → IsPermutation cs sorted → IsSorted cell_cmp sorted → new ≡ dedup E sorted → new ≡ in_order cs
  kept cs sorted new moved up is =
      is-in_order new cs (subst (IsStrictlySortedBy cell_cmp) (sym is) (IsStrictlySortedBy-dedup cell_total ties sorted up))
      (λ d there. Contains-permutation sorted cs d (IsPermutation-sym cs sorted moved) (Contains-from_dedup E sorted d (subst (λ ds. Contains ds d) is there)))
      (λ d there. subst (λ ds. Contains ds d) (sym is) (Contains-dedup alike same sorted d (Contains-permutation cs sorted d moved there)))

pub once_is : {E : Cell → Cell → Bool} (cs sorted new : List Cell) → new ≡ dedup E sorted → ((x y : Cell) → E x y ≡ eq_by_cmp cell_cmp x y) → IsPermutation cs sorted →
    IsSorted cell_cmp sorted → new ≡ in_order cs
once_is {E} cs sorted new is ties moved up = kept E ties cs sorted new moved up is
