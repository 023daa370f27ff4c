-- Members of ranges, and the lexicographic order of lists.
use Rattle.std.proofs.Common.{◌≡◌, ◌<◌, ◌≤◌, ◌+◌, ℕ, zero, suc, List, [], ◌∷◌, ◌++◌, refl, sym, inl, inr, arith}
use Rattle.std.specs.{List.Contains, List.range_with_len, Ordering.nat_cmp, Cmp.nat_cmp_is, Cmp.Lexicographic.slice_cmp}
use Rattle.std.specs.declared.cmp.Ordering.TheVariants.{Less, Equal}
use Rattle.dd_values.specs.lemmas.Members.{Contains-later, Contains-cons_cases, All-from_contains, Contains-first, Contains-nil}

pub range_from : (k n s : ℕ) → Contains (range_with_len k n) s → k ≤ s
range_from k zero s c = absurd (Contains-nil s c)
range_from k (suc n) s c = elim (Contains-cons_cases k (range_with_len (k + 1) n) s c) [
  | inl same ↦ omega (arith, same)
  | inr there ↦ let later = range_from (k + 1) n s there in omega arith
]

-- of two lists, the smaller is the one with the smaller number at the first place where they differ
pub less_at : (start : List ℕ) (k s : ℕ) (ks ss : List ℕ) → k < s → slice_cmp nat_cmp (start ++ k ∷ ks) (start ++ s ∷ ss) ≡ Less
less_at [] k s ks ss less = rw (sym (nat_cmp_is k s Less less)) refl
less_at (x ∷ start) k s ks ss less = rw (sym (nat_cmp_is x x Equal refl)) (less_at start k s ks ss less)
