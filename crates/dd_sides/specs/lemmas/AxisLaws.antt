-- Laws of sums along an axis.
use Rattle.std.proofs.Common.{◌≡◌, ℕ, zero, suc, ◌+◌, ◌-◌, ◌*◌, ◌<◌, ◌≤◌, refl, ap, subst, inl, inr, arith}
use Rattle.std.proofs.lemmas.{Int.ints, Bool.cases_lt}
use Rattle.std.specs.Prelude.{ℤ, pos, negsuc, ◌+ℤ◌, ◌-ℤ◌, unsigned_abs}
use Rattle.dd_sides.specs.Sums.{axis_sum}

pub axis_split : (m k : ℕ) (a : ℤ) (f : ℤ → ℕ) → axis_sum (m + k) a f ≡ axis_sum m a f + axis_sum k (a +ℤ pos m) f
axis_split m zero a f = let e : m + 0 ≡ m = omega arith in rw e (omega arith)
axis_split m (suc k) a f =
    let e : m + suc k ≡ suc (m + k) = omega arith in
    let p : a +ℤ pos (m + k) ≡ (a +ℤ pos m) +ℤ pos k = omega (arith, ints) in
    rw (e, p) (omega (arith, axis_split m k a f))

-- what a run of n consecutive coordinates receives along s is what the run moved by -s gives
pub axis_moved : (n : ℕ) (a s : ℤ) (f : ℤ → ℕ) → axis_sum n a (λ c. f (c -ℤ s)) ≡ axis_sum n (a -ℤ s) f
axis_moved zero a s f = refl
axis_moved (suc n) a s f =
    let p : (a +ℤ pos n) -ℤ s ≡ (a -ℤ s) +ℤ pos n = omega (arith, ints) in
    rw p (ap (λ (t : ℕ). t + f ((a -ℤ s) +ℤ pos n)) (axis_moved n a s f))

pub axis_same : (n : ℕ) (a : ℤ) (f g : ℤ → ℕ) → ((c : ℤ) → f c ≡ g c) → axis_sum n a f ≡ axis_sum n a g
axis_same zero a f g h = refl
axis_same (suc n) a f g h = rw (axis_same n a f g h, h (a +ℤ pos n)) refl

pub axis_at_most : (n : ℕ) (a : ℤ) (f g : ℤ → ℕ) → ((i : ℕ) → i < n → f (a +ℤ pos i) ≤ g (a +ℤ pos i)) → axis_sum n a f ≤ axis_sum n a g
axis_at_most zero a f g h = omega arith
axis_at_most (suc n) a f g h = omega (arith, h n (omega arith), axis_at_most n a f g (λ i low. h i (omega arith)))

pub axis_add : (n : ℕ) (a : ℤ) (f g : ℤ → ℕ) → axis_sum n a (λ c. f c + g c) ≡ axis_sum n a f + axis_sum n a g
axis_add zero a f g = omega arith
axis_add (suc n) a f g = omega (arith, axis_add n a f g)

pub axis_const : (n : ℕ) (a : ℤ) (k : ℕ) → axis_sum n a (λ _. k) ≡ n * k
axis_const zero a k = omega arith
axis_const (suc n) a k = omega (arith, axis_const n a k)

pub axis_times : (n : ℕ) (a : ℤ) (q : ℕ) (f : ℤ → ℕ) → axis_sum n a (λ c. q * f c) ≡ q * axis_sum n a f
axis_times zero a q f = omega arith
axis_times (suc n) a q f = omega (arith, axis_times n a q f)

pub axis_most : (n : ℕ) (a : ℤ) (g : ℤ → ℕ) (e : ℕ) → ((c : ℤ) → g c ≤ e) → axis_sum n a g ≤ n * e
axis_most zero a g e up = omega arith
axis_most (suc n) a g e up = omega (arith, axis_most n a g e up, up (a +ℤ pos n))

-- if g + k is at most h + e at each coordinate, this holds for the sums over a run, too
together : (n : ℕ) (a : ℤ) (g h : ℤ → ℕ) (k e : ℕ) → ((c : ℤ) → g c + k ≤ h c + e) → axis_sum n a g + n * k ≤ axis_sum n a h + n * e
together zero a g h k e le = omega arith
together (suc n) a g h k e le = omega (arith, together n a g h k e le, le (a +ℤ pos n))

shifted_up : (d r : ℕ) (a : ℤ) (g h : ℤ → ℕ) (k e : ℕ) → ((c : ℤ) → g c + k ≤ h c + e) → ((c : ℤ) → g c ≤ e) →
    axis_sum (d + r) (a -ℤ pos d) g + r * k ≤ axis_sum (d + r) a h + (d + r) * e
shifted_up d r a g h k e le up =
    let b : (a -ℤ pos d) +ℤ pos d ≡ a = omega (arith, ints) in
    let gs : axis_sum (d + r) (a -ℤ pos d) g ≡ axis_sum d (a -ℤ pos d) g + axis_sum r a g = rw (axis_split d r (a -ℤ pos d) g, b) refl in
    let c : d + r ≡ r + d = omega arith in
    let hs : axis_sum (d + r) a h ≡ axis_sum r a h + axis_sum d (a +ℤ pos r) h = rw (c, axis_split r d a h) refl in
    omega (arith, gs, hs, axis_most d (a -ℤ pos d) g e up, together r a g h k e le)

shifted_down : (d r : ℕ) (a b : ℤ) (g h : ℤ → ℕ) (k e : ℕ) → b ≡ a +ℤ pos d → ((c : ℤ) → g c + k ≤ h c + e) → ((c : ℤ) → g c ≤ e) →
    axis_sum (d + r) b g + r * k ≤ axis_sum (d + r) a h + (d + r) * e
shifted_down d r a b g h k e is le up =
    let c : d + r ≡ r + d = omega arith in
    let gs : axis_sum (d + r) b g ≡ axis_sum r b g + axis_sum d (b +ℤ pos r) g = rw (c, axis_split r d b g) refl in
    let hs : axis_sum (d + r) a h ≡ axis_sum d a h + axis_sum r b h = rw (axis_split d r a h, is) refl in
    omega (arith, gs, hs, axis_most d (b +ℤ pos r) g e up, together r b g h k e le)

far : (n m : ℕ) (b a : ℤ) (g h : ℤ → ℕ) (k e : ℕ) → n ≤ m → ((c : ℤ) → g c ≤ e) → axis_sum n b g + (n - m) * k ≤ axis_sum n a h + n * e
far n m b a g h k e le up = let z : n - m ≡ 0 = omega arith in rw z (omega (arith, axis_most n b g e up))

-- What `box_shifted` uses for each axis in turn. Let g be at most e, and g + k at most h + e, at each coordinate. Then the sum of g over the run
-- moved by -s, plus k times max(0, n - |s|), is at most the sum of h over the run, plus e times n.
pub axis_shifted : (n : ℕ) (a s : ℤ) (g h : ℤ → ℕ) (k e : ℕ) → ((c : ℤ) → g c + k ≤ h c + e) → ((c : ℤ) → g c ≤ e) →
    axis_sum n (a -ℤ s) g + (n - unsigned_abs s) * k ≤ axis_sum n a h + n * e
axis_shifted n a (pos d) g h k e le up = elim (cases_lt d n) [
  | inr past ↦ far n d (a -ℤ pos d) a g h k e past up
  | inl low ↦
      let c : d + (n - d) ≡ n = omega arith in
      subst (λ (m : ℕ). axis_sum m (a -ℤ pos d) g + (n - d) * k ≤ axis_sum m a h + m * e) c (shifted_up d (n - d) a g h k e le up)
]
axis_shifted n a (negsuc d) g h k e le up = elim (cases_lt (suc d) n) [
  | inr past ↦ far n (suc d) (a -ℤ negsuc d) a g h k e past up
  | inl low ↦
      let c : suc d + (n - suc d) ≡ n = omega arith in
      let b : a -ℤ negsuc d ≡ a +ℤ pos (suc d) = omega (arith, ints) in
      subst (λ (m : ℕ). axis_sum m (a -ℤ negsuc d) g + (n - suc d) * k ≤ axis_sum m a h + m * e) c (shifted_down (suc d) (n - suc d) a (a -ℤ negsuc d) g h k e b le up)
]
