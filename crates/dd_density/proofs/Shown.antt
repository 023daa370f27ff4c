-- What the check tests is what a certificate needs. At most one edge leaves a state by a slice. A closed walk has exactly one mean and one density in
-- lowest terms, so those that the check computes are the only right ones.
use Rattle.std.proofs.Common.{◌≡◌, ℕ, ◌*◌, ◌<◌, ◌≤◌, ◌^◌, Bool, IsTrue, ◌↔◌, List, length, Some, arith, sym, ◌∙◌, subst}
use Rattle.std.proofs.Math.Nat.{mul-le-mul}
use Rattle.std.specs.Prelude.{ℤ, pos, ◌-ℤ◌, ◌≤ℤ◌}
use Rattle.dd_transfer.specs.{Graphs.Transfer, Graphs.next_of, Graphs.weight_at, Certificates.IsInLowestTerms, Certificates.potential_of}
use Rattle.dd_meancycle.specs.Means.{IsCycle, ArePotentials, weight_of}
use Rattle.dd_density.specs.graphs.Shown.{IsShown, IsRiseAlong}
use Rattle.dd_density.proofs.Fractions.{SameFraction, lowest_same}

same_state : (a b : ℕ) → Some a ≡ Some b → a ≡ b
same_state a b h = cc

-- at most one edge leaves a state by a slice; if there is one, it is enough to test this edge
pub rise_along : (g : Transfer) (m l : ℕ) (ps : List ℤ) (u t next weight : ℕ) (b : Bool) → next_of g u t ≡ Some next → weight ≡ weight_at g t →
    (IsTrue b ↔ ((potential_of ps next -ℤ potential_of ps u) ≤ℤ (pos (l * weight) -ℤ pos m))) → IsTrue b ↔ IsRiseAlong g m l ps u t
rise_along g m l ps u t next weight b here heavy said = (
  λ yes v h.
      let e : next ≡ v = same_state next v (sym here ∙ h) in
      subst (λ (x : ℕ). (potential_of ps x -ℤ potential_of ps u) ≤ℤ (pos (l * weight_at g t) -ℤ pos m)) e
      (subst (λ (w : ℕ). (potential_of ps next -ℤ potential_of ps u) ≤ℤ (pos (l * w) -ℤ pos m)) heavy (said.0 yes)),
  λ all. said.1 (subst (λ (w : ℕ). (potential_of ps next -ℤ potential_of ps u) ≤ℤ (pos (l * w) -ℤ pos m)) (sym heavy) (all next here)),
)

-- the numbers that the check finds for a closed walk: its mean mn / md and its density dn / dd, both in lowest terms
pub record AreFound (g : Transfer) (volume : ℕ) (walk : List ℕ) (mn md dn dd : ℕ) : Type 0 where
  pub cycle : IsCycle g walk
  pub mean : IsInLowestTerms mn md (weight_of g walk) (length walk)
  pub density : IsInLowestTerms dn dd mn (md * volume)
  pub some : 0 < md * volume

pub record IsSameClaim (mn md dn dd p q m l : ℕ) : Type 0 where
  pub mean : SameFraction mn md m l
  pub density : SameFraction dn dd p q

pub found_same : (g : Transfer) (volume p q : ℕ) (walk : List ℕ) (ps : List ℤ) (mn md dn dd : ℕ) → AreFound g volume walk mn md dn dd → (s : IsShown g volume p q walk ps) → IsSameClaim mn md dn dd p q s.m s.l
found_same g volume p q walk ps mn md dn dd found s =
    let mean = lowest_same mn md s.m s.l (weight_of g walk) (length walk) found.cycle.turns found.mean s.mean in
    let given : IsInLowestTerms p q mn (md * volume) =
    subst (λ (x : ℕ). IsInLowestTerms p q x (md * volume)) (sym mean.numerator) (subst (λ (x : ℕ). IsInLowestTerms p q s.m (x * volume)) (sym mean.denominator) s.density) in
    record { mean = mean; density = lowest_same dn dd p q mn (md * volume) found.some found.density given }

pub shown_found : (g : Transfer) (volume p q : ℕ) (walk : List ℕ) (ps : List ℤ) (mn md dn dd : ℕ) (b : Bool) → AreFound g volume walk mn md dn dd → dn ≡ p → dd ≡ q →
    (IsTrue b ↔ ((length ps ≡ g.states) × ArePotentials g mn md ps)) → IsTrue b ↔ IsShown g volume p q walk ps
shown_found g volume p q walk ps mn md dn dd b found same_p same_q said = (
  λ yes. record {
    m = mn;
    l = md;
    cycle = found.cycle;
    mean = found.mean;
    density = subst (λ (x : ℕ). IsInLowestTerms x q mn (md * volume)) same_p (subst (λ (x : ℕ). IsInLowestTerms dn x mn (md * volume)) same_q found.density);
    each = (said.0 yes).0;
    potentials = (said.0 yes).1;
  },
  λ s.
      let same = found_same g volume p q walk ps mn md dn dd found s in
      said.1 (s.each, subst (λ (x : ℕ). ArePotentials g x md ps) (sym same.mean.numerator) (subst (λ (x : ℕ). ArePotentials g s.m x ps) (sym same.mean.denominator) s.potentials)),
)

pub small_product : (a b : ℕ) → a < 2 ^ 64 → b ≤ 4096 → a * b < 2 ^ 128
small_product a b p q = let x : a * b ≤ 18446744073709551615 * 4096 = mul-le-mul {n₁ = a} {m₁ = b} {n₂ = 18446744073709551615} {m₂ = 4096} (omega arith) q in omega (arith, x)

pub some_product : (a b : ℕ) → 0 < a → 0 < b → 0 < a * b
some_product a b p q = let x : 1 * 1 ≤ a * b = mul-le-mul {n₁ = 1} {m₁ = 1} {n₂ = a} {m₂ = b} p q in omega (arith, x)
