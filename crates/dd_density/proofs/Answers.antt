-- The answer that results from a least mean is right, and its numbers are small.
use Rattle.std.proofs.Common.{◌≡◌, ℕ, ◌*◌, ◌<◌, ◌≤◌, ◌^◌, List, length, arith, sym, ap, subst}
use Rattle.std.proofs.{lemmas.List.get_or_default, Math.Nat.mul-le-mul}
use Rattle.std.specs.{Prelude.ℤ, Prelude.pos, Prelude.unsigned_abs, List.All}
use Rattle.dd_formula.specs.LocalRule.{LocalRule}
use Rattle.dd_strip.specs.{declared.strip.Strip.Strip, Strips.positions}
use Rattle.dd_transfer.specs.{Graphs.Transfer, Graphs.IsTransfer, Transfers.IsGraphOf}
use Rattle.dd_transfer.specs.Certificates.{IsInLowestTerms, potential_of}
use Rattle.dd_meancycle.specs.{declared.least.Mean.Mean, Means.IsLeastMeanCycle, Means.IsMeanOf, Means.weight_of}
use Rattle.dd_density.specs.declared.answer.Density.{Density}
use Rattle.dd_density.specs.declared.answer.Density.TheVariants.{Least, Empty}
use Rattle.dd_density.specs.{Densities.IsCertifiedDensity, Densities.IsSmallDensity, graphs.Means.IsMeanOver, graphs.Means.IsOfMean}
use Rattle.dd_density.proofs.{Fractions.lowest_small, Fractions.IsNoGreater, Walks.weight_most, Walks.certificate_of, Walks.empty_of}
use Rattle.dd_meancycle.specs.declared.least.Mean.TheVariants as mean

pub lowest_mean : (g : Transfer) (m l : ℕ) (cycle : List ℕ) (ps : List ℤ) → IsLeastMeanCycle g m l cycle ps → IsInLowestTerms m l (weight_of g cycle) (length cycle)
lowest_mean g m l cycle ps is = record { same = sym is.mean; lowest = is.lowest; positive = is.positive }

mean_small : (g : Transfer) (m l : ℕ) (cycle : List ℕ) (ps : List ℤ) → IsLeastMeanCycle g m l cycle ps → IsNoGreater m l (weight_of g cycle) (length cycle)
mean_small g m l cycle ps is = lowest_small m l (weight_of g cycle) (length cycle) is.cycle_is.turns (lowest_mean g m l cycle ps is)

some_product : (a b : ℕ) → 0 < a → 0 < b → 0 < a * b
some_product a b p q = let x : 1 * 1 ≤ a * b = mul-le-mul {n₁ = 1} {m₁ = 1} {n₂ = a} {m₂ = b} p q in omega (arith, x)

-- for a least mean m / l, the numbers m and l * volume are small enough for an output, and l * volume isn't 0
pub mean_over : (g : Transfer) (volume : ℕ) (m : Mean) → IsTransfer g → 0 < volume → volume ≤ 4096 → IsMeanOf g m → IsMeanOver volume m
mean_over g volume (mean.Least m l cycle ps) well some few is =
    let small = mean_small g m l cycle ps is in
    let l_few : l ≤ 4096 = omega (arith, small.denominator, is.short, well.few) in
    let product : l * volume ≤ 4096 * 4096 = mul-le-mul {n₁ = l} {m₁ = volume} {n₂ = 4096} {m₂ = 4096} l_few few in
    let heavy = weight_most g cycle well in
    (some_product l volume is.positive some, omega (arith, product), omega (arith, heavy, small.numerator, is.short, well.few))
mean_over g volume (mean.NoCycle ranks) well some few is = tt

pub is_certified : (r : LocalRule) (s : Strip) (weights : List ℕ) (g : Transfer) (m : Mean) (d : Density) → IsGraphOf r s weights g → IsMeanOf g m → IsOfMean (positions s) m d → IsCertifiedDensity r s weights d
is_certified r s weights g (mean.Least m l cycle ps) (Least p q walk qs) is least of =
    rw (of.walk_is, of.potentials_are)
    (certificate_of r s weights g p q cycle ps is (record {
      m = m;
      l = l;
      cycle = least.cycle_is;
      mean = lowest_mean g m l cycle ps least;
      density = of.density;
      each = least.each;
      potentials = least.potentials;
    }))
is_certified r s weights g (mean.NoCycle ranks) (Empty given) is least of =
    rw of.0 (empty_of r s weights g ranks is (record { each = least.each; fall = least.ranks_fall }))
is_certified r s weights g (mean.Least m l cycle ps) (Empty given) is least of = absurd of
is_certified r s weights g (mean.NoCycle ranks) (Least p q walk qs) is least of = absurd of

bounded_at : (ps : List ℤ) (n : ℕ) → length ps ≡ n → ((v : ℕ) → v < n → unsigned_abs (potential_of ps v) ≤ 2 ^ 40) → All (λ x. unsigned_abs x ≤ 2 ^ 40) ps
bounded_at ps n each given = λ k d lt.
    subst (λ (x : ℤ). unsigned_abs x ≤ 2 ^ 40) (get_or_default ps k (pos 0) d lt) (given k (omega (arith, each, lt)))

pub is_small : (r : LocalRule) (s : Strip) (weights : List ℕ) (g : Transfer) (m : Mean) (d : Density) → IsGraphOf r s weights g → IsMeanOf g m → IsMeanOver (positions s) m → IsOfMean (positions s) m d → IsSmallDensity r s d
is_small r s weights g (mean.Least m l cycle ps) (Least p q walk qs) is least over of =
    let low = lowest_small p q m (l * positions s) over.0 of.density in
    let walked : length walk ≡ length cycle = ap length of.walk_is in
    record {
      numerator = omega (arith, low.numerator, over.2);
      denominator = omega (arith, low.denominator, over.1);
      short = omega (arith, walked, least.short, is.states_are);
      walked = λ k d lt. (let x = of.small k d lt in omega (arith, x));
      potentials = rw of.potentials_are (bounded_at ps g.states least.each least.bounded);
    }
is_small r s weights g (mean.NoCycle ranks) (Empty given) is least over of = λ k d lt. (let x = of.1 k d lt in omega (arith, x))
is_small r s weights g (mean.Least m l cycle ps) (Empty given) is least over of = absurd of
is_small r s weights g (mean.NoCycle ranks) (Least p q walk qs) is least over of = absurd of

-- a slice has y * z positions; this is at least 1 if both periods are, and at most 4,096 if both are at most 64
pub volume_some : (y z : ℕ) → 0 < y → 0 < z → 0 < y * z
volume_some y z p q = some_product y z p q

pub volume_few : (y z : ℕ) → y ≤ 64 → z ≤ 64 → y * z ≤ 4096
volume_few y z p q = let x : y * z ≤ 64 * 64 = mul-le-mul {n₁ = y} {m₁ = z} {n₂ = 64} {m₂ = 64} p q in omega (arith, x)
