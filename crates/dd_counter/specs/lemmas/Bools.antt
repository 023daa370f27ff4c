-- Facts about truth values and ranges.
use Rattle.std.proofs.Common.{◌≡◌, ℕ, zero, suc, ◌+◌, ◌<◌, ◌≤◌, Bool, true, false, refl, ap, sym, ◌∙◌, arith}
use Rattle.std.proofs.lemmas.Bool.{lt-ltb, ltb-true, ltb-false, eqb-true, eqb-false, ne_eqb}
use Rattle.std.proofs.lemmas.Bool.Decides.{nat_tests}
use Rattle.std.specs.{Prelude.◌&&◌, Prelude.◌||◌, Prelude.◌-◌, Prelude.◌==◌, Prelude.nat_lt, List.list_any, List.range_with_len}
use Rattle.dd_values.specs.lemmas.Booleans.{or_false}

-- if a range begins above c, no number s in it satisfies both c == s and f s
none_of_range : (f : ℕ → Bool) (c k a : ℕ) → c < a → list_any (λ s. (c == s) && f s) (range_with_len a k) ≡ false
none_of_range f c zero a h = refl
none_of_range f c (suc k) a h = rw (ne_eqb c a (λ e. omega arith)) (none_of_range f c k (a + 1) (omega arith))

pub one_of_range : (f : ℕ → Bool) (c k a : ℕ) → a ≤ c → c < a + k → list_any (λ s. (c == s) && f s) (range_with_len a k) ≡ f c
one_of_range f c zero a low high = absurd (omega arith)
one_of_range f c (suc k) a low high = go (c == a) refl (λ above. one_of_range f c k (a + 1) above (omega arith)) where
  go : (b : Bool) → (c == a) ≡ b → (a + 1 ≤ c → list_any (λ s. (c == s) && f s) (range_with_len (a + 1) k) ≡ f c) → list_any (λ s. (c == s) && f s) (range_with_len a (suc k)) ≡ f c
  go true is rest =
      let same : c ≡ a = eqb-true c a is in
      rw is (ap (λ b. f a || b) (none_of_range f c k (a + 1) (omega (arith, same))) ∙ (or_false (f a) ∙ ap f (sym same)))
  go false is rest = let other = eqb-false c a is in rw is (rest (omega (arith, other)))

lt_less : (t w total : ℕ) → w ≤ t → nat_lt (t - w) total ≡ nat_lt t (total + w)
lt_less t w total h = grind (arith, nat_tests)

-- suppose that b says whether t - w is below total, if w is at most t; then t is below total + w exactly when t is below w or b is true
pub lt_sum : (t w total : ℕ) (b : Bool) → (w ≤ t → b ≡ nat_lt (t - w) total) → (nat_lt t w || b) ≡ nat_lt t (total + w)
lt_sum t w total b rest = go (nat_lt t w) refl where
  go : (c : Bool) → nat_lt t w ≡ c → (c || b) ≡ nat_lt t (total + w)
  go true is = let h = ltb-true t w is in sym (lt-ltb t (total + w) (omega arith))
  go false is = let h = ltb-false t w is in rest h ∙ lt_less t w total h
