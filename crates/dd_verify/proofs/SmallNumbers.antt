-- Tests of each number of a list decide whether an output can hold the list.
use Rattle.std.proofs.Common.{◌≡◌, ℕ, ◌≤◌, Bool, true, List, length, sym, ◌∙◌, ℤ}
use Rattle.std.proofs.lemmas.{Bool.leb-true, Bool.le-leb, List.Elements.All-weaker}
use Rattle.std.proofs.lemmas.List.Sums.{AllPass-from_list_all, list_all-from_AllPass}
use Rattle.std.specs.{Prelude.◌↔◌, Prelude.nat_le, Prelude.unsigned_abs, List.All, List.list_all}
use Rattle.dd_certificate.specs.Bounds.{most_number, IsWritableNumber, IsWritableSigned, IsWritableList}

module _ {X : Type 0} (size : X → ℕ) (xs : List X) (b : Bool) (is : b ≡ list_all (λ x. nat_le (size x) most_number) xs) where
  abbrev IsSmall : X → Type 0
  IsSmall x = size x ≤ most_number

  abbrev passes : X → Bool
  passes x = nat_le (size x) most_number

  are_small : (b ≡ true) ↔ All IsSmall xs
  are_small = (
    λ h. All-weaker (λ x. passes x ≡ true) IsSmall (λ x le. leb-true (size x) most_number le) xs (AllPass-from_list_all passes xs (sym is ∙ h)),
    λ all. is ∙ list_all-from_AllPass passes xs (All-weaker IsSmall (λ x. passes x ≡ true) (λ x le. le-leb (size x) most_number le) xs all),
  )

  some_small : 1 ≤ length xs → (b ≡ true) ↔ ((1 ≤ length xs) × All IsSmall xs)
  some_small some = (λ h. (some, are_small.0 h), λ both. are_small.1 both.1)

pub numbers_are : (ns : List ℕ) (b : Bool) → b ≡ list_all (λ n. nat_le n most_number) ns → (b ≡ true) ↔ All IsWritableNumber ns
numbers_are ns b is = are_small (λ n. n) ns b is

pub list_is : (ns : List ℕ) (b : Bool) → b ≡ list_all (λ n. nat_le n most_number) ns → 1 ≤ length ns → (b ≡ true) ↔ IsWritableList ns
list_is ns b is some = some_small (λ n. n) ns b is some

pub signed_list_is : (zs : List ℤ) (b : Bool) → b ≡ list_all (λ z. nat_le (unsigned_abs z) most_number) zs → 1 ≤ length zs →
    (b ≡ true) ↔ ((1 ≤ length zs) × All IsWritableSigned zs)
signed_list_is zs b is some = some_small unsigned_abs zs b is some
