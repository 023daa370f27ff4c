-- Numbers below n: properties of all of them, the least one with a property, and one at which a key is least.
use Rattle.std.proofs.Common.{◌≡◌, ◌≢◌, ℕ, zero, suc, ◌<◌, Option, Some, None, Bool, true, false, ◌&&◌, cond, ◌⊎◌, inl, inr, ⊎_elim, refl, sym, ap, subst, ◌∙◌, arith}
use Rattle.std.proofs.lemmas.Bool.{cases_eq}
use Rattle.dd_fraction.specs.{Exact.Exact, Order.IsAtMost}
use Rattle.dd_fraction.specs.lemmas.OrderLaws.{at_most_refl, at_most_trans, at_most_total}
use Rattle.dd_simplex.specs.Runs.{all_below, first_below, or_else}
use Rattle.dd_values.specs.lemmas.Booleans.{and_both, and_second}

pub and_left : (a b : Bool) → (a && b) ≡ true → a ≡ true
and_left true b e = refl
and_left false b e = e

pub and_right : (a b : Bool) → (a && b) ≡ true → b ≡ true
and_right true b e = e
and_right false b e = absurd cc

-- ---- each number below n
pub all_at : (f : ℕ → Bool) (n i : ℕ) → all_below f n ≡ true → i < n → f i ≡ true
all_at f zero i h p = absurd (omega (arith, p))
all_at f (suc n) i h p = ⊎_elim
    (λ (s : i ≡ n). ap f s ∙ and_right (all_below f n) (f n) h)
    (λ (s : i ≢ n). all_at f n i (and_left (all_below f n) (f n) h) (omega (arith, p, s)))
    (cases_eq i n)

pub all_true : (f : ℕ → Bool) (n : ℕ) → ((i : ℕ) → i < n → f i ≡ true) → all_below f n ≡ true
all_true f zero h = refl
all_true f (suc n) h = and_both (all_below f n) (f n) (all_true f n (λ i p. h i (omega (arith, p)))) (h n (omega arith))

pub all_false : (f : ℕ → Bool) (n i : ℕ) → i < n → f i ≡ false → all_below f n ≡ false
all_false f zero i p h = absurd (omega (arith, p))
all_false f (suc n) i p h = ⊎_elim
    (λ (s : i ≡ n). and_second (all_below f n) (f n) (ap f (sym s) ∙ h))
    (λ (s : i ≢ n). ap (λ (b : Bool). b && f n) (all_false f n i (omega (arith, p, s)) h))
    (cases_eq i n)

-- ---- the least number with a property
or_else_gives : (a b : Option ℕ) (m : ℕ) → or_else a b ≡ Some m → (a ≡ Some m) ⊎ ((a ≡ None) × (b ≡ Some m))
or_else_gives None b m h = inr (refl, h)
or_else_gives (Some k) b m h = inl h

cond_gives : (t : Bool) (n m : ℕ) → cond t (Some n) None ≡ Some m → (t ≡ true) × (n ≡ m)
cond_gives true n m h = (refl, cc)
cond_gives false n m h = absurd cc

pub first_some : (f : ℕ → Bool) (n m : ℕ) → first_below f n ≡ Some m → (m < n) × (f m ≡ true)
first_some f zero m h = absurd cc
first_some f (suc n) m h = ⊎_elim
    (λ s. let g = first_some f n m s in (omega (arith, g.0), g.1))
    (λ s. let g = cond_gives (f n) n m s.1 in (omega (arith, g.1), subst (λ (k : ℕ). f k ≡ true) g.1 g.0))
    (or_else_gives (first_below f n) (cond (f n) (Some n) None) m h)

pub first_absent : (f : ℕ → Bool) (n : ℕ) → ((i : ℕ) → i < n → f i ≡ false) → first_below f n ≡ None
first_absent f zero h = refl
first_absent f (suc n) h = rw (first_absent f n (λ i p. h i (omega (arith, p))), h n (omega arith)) refl

pub first_is : (f : ℕ → Bool) (n m : ℕ) → m < n → f m ≡ true → ((i : ℕ) → i < m → f i ≡ false) → first_below f n ≡ Some m
first_is f zero m p g h = absurd (omega (arith, p))
first_is f (suc n) m p g h = ⊎_elim
    (λ (s : m ≡ n). rw (← s) (rw (first_absent f m h, g) refl))
    (λ (s : m ≢ n). rw (first_is f n m (omega (arith, p, s)) g h) refl)
    (cases_eq m n)

or_else_none : (a b : Option ℕ) → or_else a b ≡ None → (a ≡ None) × (b ≡ None)
or_else_none None b h = (refl, h)
or_else_none (Some k) b h = absurd cc

cond_none : (t : Bool) (n : ℕ) → cond t (Some n) None ≡ None → t ≡ false
cond_none true n h = absurd cc
cond_none false n h = refl

pub first_none : (f : ℕ → Bool) (n i : ℕ) → first_below f n ≡ None → i < n → f i ≡ false
first_none f zero i h p = absurd (omega (arith, p))
first_none f (suc n) i h p =
    let g = or_else_none (first_below f n) (cond (f n) (Some n) None) h in
    ⊎_elim
    (λ (s : i ≡ n). ap f s ∙ cond_none (f n) n g.1)
    (λ (s : i ≢ n). first_none f n i g.0 (omega (arith, p, s)))
    (cases_eq i n)

-- ---- of the numbers below n with the property f, one at which `key` is least
pub record IsSmallest (f : ℕ → Bool) (key : ℕ → Exact) (n : ℕ) : Type 0 where
  pub place : ℕ
  pub within : place < n
  pub fit : f place ≡ true
  pub least : (i : ℕ) → i < n → f i ≡ true → IsAtMost (key place) (key i)

pub smallest : (f : ℕ → Bool) (key : ℕ → Exact) (n : ℕ) → ((i : ℕ) → i < n → f i ≡ false) ⊎ IsSmallest f key n
smallest f key zero = inl (λ i p. absurd (omega (arith, p)))
smallest f key (suc n) = by (f n) refl (smallest f key n)
  where
    no : true ≡ false → ⊥
    no e = absurd cc

    by : (t : Bool) → f n ≡ t → ((i : ℕ) → i < n → f i ≡ false) ⊎ IsSmallest f key n → ((i : ℕ) → i < suc n → f i ≡ false) ⊎ IsSmallest f key (suc n)
    by false e (inl h) = inl (λ i p. ⊎_elim (λ (s : i ≡ n). ap f s ∙ e) (λ (s : i ≢ n). h i (omega (arith, p, s))) (cases_eq i n))
    by false e (inr s) = inr (record {
      place = s.place;
      within = let w = s.within in omega (arith, w);
      fit = s.fit;
      least = λ i p g. ⊎_elim (λ (u : i ≡ n). absurd (no (sym g ∙ (ap f u ∙ e)))) (λ (u : i ≢ n). s.least i (omega (arith, p, u)) g) (cases_eq i n);
    })
    by true e (inl h) = inr (record {
      place = n;
      within = omega arith;
      fit = e;
      least = λ i p g. ⊎_elim (λ (u : i ≡ n). subst (λ (k : ℕ). IsAtMost (key n) (key k)) (sym u) (at_most_refl (key n)))
          (λ (u : i ≢ n). absurd (no (sym g ∙ h i (omega (arith, p, u))))) (cases_eq i n);
    })
    by true e (inr s) = ⊎_elim
        (λ (a : IsAtMost (key s.place) (key n)). inr (record {
          place = s.place;
          within = let w = s.within in omega (arith, w);
          fit = s.fit;
          least = λ i p g. ⊎_elim (λ (u : i ≡ n). subst (λ (k : ℕ). IsAtMost (key s.place) (key k)) (sym u) a) (λ (u : i ≢ n). s.least i (omega (arith, p, u)) g) (cases_eq i n);
        }))
        (λ (a : IsAtMost (key n) (key s.place)). inr (record {
          place = n;
          within = omega arith;
          fit = e;
          least = λ i p g. ⊎_elim (λ (u : i ≡ n). subst (λ (k : ℕ). IsAtMost (key n) (key k)) (sym u) (at_most_refl (key n)))
              (λ (u : i ≢ n). at_most_trans (key n) (key s.place) (key i) a (s.least i (omega (arith, p, u)) g)) (cases_eq i n);
        }))
        (at_most_total (key s.place) (key n))
