-- The edges of a transfer graph, and paths with one more state.
use Rattle.std.proofs.Common.{◌≡◌, ℕ, zero, suc, ◌+◌, ◌*◌, ◌/◌, ◌%◌, ◌<◌, ◌≤◌, ◌^◌, Bool, true, false, cond, List, [], ◌∷◌, ◌++◌, length, get_or, Some, None, arith, refl, sym, ap, ◌∙◌}
use Rattle.std.proofs.{lemmas.Bool.Decides.nat_tests, lemmas.Nat.mod-mul-add, lemmas.Nat.mod_below, Math.Nat.mul-le-mul_right}
use Rattle.std.specs.Prelude.{◌&&◌, nat_lt, slice_index_or}
use Rattle.dd_transfer.specs.Graphs.{Transfer, IsTransfer, target, next_of, window_of, weight_at}
use Rattle.dd_meancycle.specs.Means.{IsPath, weight_of}

-- what holds if an edge leads from the state u by the slice t to the state v
pub record Step (g : Transfer) (u t v : ℕ) : Type 0 where
  pub state : u < g.states
  pub slice : t < g.slices
  pub leads : v ≡ window_of g u t % g.states

led : (open_ : Bool) (x v : ℕ) → cond open_ (Some x) None ≡ Some v → v ≡ x
led true x v h = cc
led false x v h = absurd (cc)

step_at : (g : Transfer) (u t v : ℕ) (p q : Bool) → nat_lt u g.states ≡ p → nat_lt t g.slices ≡ q → cond (p && q) (target g (window_of g u t)) None ≡ Some v → Step g u t v
step_at g u t v true true p q h = record {
  state = grind (arith, nat_tests);
  slice = grind (arith, nat_tests);
  leads = led (slice_index_or g.windows (window_of g u t) false) (window_of g u t % g.states) v h;
}
step_at g u t v true false p q h = absurd (cc)
step_at g u t v false true p q h = absurd (cc)
step_at g u t v false false p q h = absurd (cc)

pub step : (g : Transfer) (u t v : ℕ) → next_of g u t ≡ Some v → Step g u t v
step g u t v h = step_at g u t v (nat_lt u g.states) (nat_lt t g.slices) refl refl h

-- if n is a multiple of s, a number and its remainder modulo n have the same remainder modulo s
mod_of_multiple : (x s n : ℕ) → 0 < s → 0 < n → n % s ≡ 0 → x % n % s ≡ x % s
mod_of_multiple x s n some more h =
    let q = x / n in
    let k = n / s in
    let split : x ≡ q * n + x % n = omega arith in
    let whole : n ≡ k * s = omega arith in
    let r = x % n % s in
    let j = x % n / s in
    let inner : x % n ≡ j * s + r = omega arith in
    let all : x ≡ (q * k + j) * s + r = (let p : q * n ≡ q * (k * s) = ap (λ (z : ℕ). q * z) whole in omega arith) in
    let small : r < s = mod_below (x % n) s some in
    sym (ap (λ (z : ℕ). z % s) all ∙ mod-mul-add (q * k + j) s r small)

-- the slice of an edge is the last slice of the state v to which it leads: its number is v modulo the number of different slices
pub last_slice : (g : Transfer) (u t v : ℕ) → IsTransfer g → next_of g u t ≡ Some v → v % g.slices ≡ t
last_slice g u t v well h =
    let s = step g u t v h in
    ap (λ (x : ℕ). x % g.slices) s.leads ∙ (mod_of_multiple (window_of g u t) g.slices g.states well.some_slice well.some_state well.divides ∙ mod-mul-add u g.slices t s.slice)

pub below_states : (g : Transfer) (u t v : ℕ) → IsTransfer g → next_of g u t ≡ Some v → v < g.states
below_states g u t v well h = rw (step g u t v h).leads (mod_below (window_of g u t) g.states well.some_state)

-- a slice weighs at most 2^25
pub weight_small : (g : Transfer) (t : ℕ) → IsTransfer g → t < g.slices → weight_at g t ≤ 2 ^ 25
weight_small g t well lt =
    let once : 1 * weight_at g t ≤ g.states * weight_at g t = mul-le-mul_right (weight_at g t) well.some_state in
    omega (arith, once, well.light t lt)

-- a path ends in its last state
pub path_end : (g : Transfer) (ss : List ℕ) (u v d k : ℕ) → k + 1 ≡ length ss → IsPath g u ss v → v ≡ get_or ss k d
path_end g [] u v d k e path = absurd (omega arith)
path_end g (s ∷ []) u v d zero e path = sym path.1
path_end g (s ∷ t ∷ ss) u v d zero e path = absurd (omega arith)
path_end g (s ∷ ss) u v d (suc k) e path = path_end g ss s v d k (omega arith) path.1

-- a path with one more state at its end
pub path_push : (g : Transfer) (ss : List ℕ) (u v s : ℕ) → IsPath g u ss v → next_of g v (s % g.slices) ≡ Some s → IsPath g u (ss ++ s ∷ []) s
path_push g [] u v s walk h = (ap (λ (x : ℕ). next_of g x (s % g.slices)) walk ∙ h, refl)
path_push g (x ∷ ss) u v s walk h = (walk.0, path_push g ss x v s walk.1 h)

pub weight_push : (g : Transfer) (ss : List ℕ) (s : ℕ) → weight_of g (ss ++ s ∷ []) ≡ weight_of g ss + weight_at g (s % g.slices)
weight_push g [] s = omega arith
weight_push g (x ∷ ss) s = let rest = weight_push g ss s in omega (arith, rest)
