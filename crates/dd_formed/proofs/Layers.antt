-- Whether a formula fits, and how deep it is, from the same facts about its parts.
use Rattle.std.proofs.Common.{◌≡◌, ℕ, ◌+◌, ◌<◌, ◌≤◌, Bool, true, false, max, List, [], ◌∷◌, length, map, take, get_or, ap, sym, ◌∙◌, arith}
use Rattle.std.proofs.lemmas.Bool.{and_from, lt-leb, le-leb, Decides.nat_tests}
use Rattle.std.proofs.lemmas.List.{length-map, take_all, Folds.list_all_more}
use Rattle.std.specs.{Prelude.◌&&◌, Prelude.nat_le, List.All, List.list_all}
use Rattle.dd_topology.specs.Grid.{Grid}
use Rattle.dd_expansion.specs.declared.formulas.{BallOf.BallOf, Formula.Formula}
use Rattle.dd_expansion.specs.declared.formulas.Formula.{TheFolds.fold-roll-Formula, TheOpen.Formula-F}
use Rattle.dd_expansion.specs.Limits.{balls_fit, formula_fits, formula_fits_step, greatest, list_depth, depth, depth_step}
use Rattle.dd_expansion.specs.lemmas.Layers.{fits_and, fits_or, depth_and, depth_or}
use Rattle.dd_expansion.specs.lemmas.Depths.{greatest_at, quantified_depth}
use Rattle.dd_formula.specs.lemmas.ReachLaws.{max_within}
use Rattle.dd_values.specs.lemmas.Numbers.{cond_more}
use Rattle.dd_expansion.specs.declared.formulas.Formula.TheVariants as formula

pub depth_not : (f : Formula) → depth (formula.Not f) ≡ 1 + depth f
depth_not f = ap depth (sym (formula.rolls-Not f)) ∙ fold-roll-Formula ℕ depth_step (Formula-F.Not f)

pub depth_implies : (f g : Formula) → depth (formula.Implies f g) ≡ 1 + max (depth f) (depth g)
depth_implies f g = ap depth (sym (formula.rolls-Implies f g)) ∙ fold-roll-Formula ℕ depth_step (Formula-F.Implies f g)

pub depth_iff : (f g : Formula) → depth (formula.Iff f g) ≡ 1 + max (depth f) (depth g)
depth_iff f g = ap depth (sym (formula.rolls-Iff f g)) ∙ fold-roll-Formula ℕ depth_step (Formula-F.Iff f g)

pub depth_exists : (bs : List BallOf) (f : Formula) → depth (formula.Exists bs f) ≡ 1 + depth f
depth_exists bs f = ap depth (sym (formula.rolls-Exists bs f)) ∙ fold-roll-Formula ℕ depth_step (Formula-F.Exists bs f)

pub ruleset depth_layers = (depth_not, depth_and, depth_or, depth_implies, depth_iff, quantified_depth, depth_exists)

pub fits_not : (g : Grid) (n : ℕ) (f : Formula) (k : ℕ) → formula_fits g n (formula.Not f) k ≡ formula_fits g n f k
fits_not g n f k = ap (λ x. formula_fits g n x k) (sym (formula.rolls-Not f)) ∙ ap (λ h. h k) (fold-roll-Formula (ℕ → Bool) (formula_fits_step g n) (Formula-F.Not f))

pub fits_implies : (g : Grid) (n : ℕ) (f h : Formula) (k : ℕ) → formula_fits g n (formula.Implies f h) k ≡ (formula_fits g n f k && formula_fits g n h k)
fits_implies g n f h k =
    ap (λ x. formula_fits g n x k) (sym (formula.rolls-Implies f h)) ∙ ap (λ x. x k) (fold-roll-Formula (ℕ → Bool) (formula_fits_step g n) (Formula-F.Implies f h))

pub fits_iff : (g : Grid) (n : ℕ) (f h : Formula) (k : ℕ) → formula_fits g n (formula.Iff f h) k ≡ (formula_fits g n f k && formula_fits g n h k)
fits_iff g n f h k =
    ap (λ x. formula_fits g n x k) (sym (formula.rolls-Iff f h)) ∙ ap (λ x. x k) (fold-roll-Formula (ℕ → Bool) (formula_fits_step g n) (Formula-F.Iff f h))

pub fits_for_all : (g : Grid) (n : ℕ) (bs : List BallOf) (f : Formula) (k : ℕ) → formula_fits g n (formula.ForAll bs f) k ≡ (balls_fit k bs && formula_fits g n f (k + 1))
fits_for_all g n bs f k =
    ap (λ x. formula_fits g n x k) (sym (formula.rolls-ForAll bs f)) ∙ ap (λ x. x k) (fold-roll-Formula (ℕ → Bool) (formula_fits_step g n) (Formula-F.ForAll bs f))

pub fits_exists : (g : Grid) (n : ℕ) (bs : List BallOf) (f : Formula) (k : ℕ) → formula_fits g n (formula.Exists bs f) k ≡ (balls_fit k bs && formula_fits g n f (k + 1))
fits_exists g n bs f k =
    ap (λ x. formula_fits g n x k) (sym (formula.rolls-Exists bs f)) ∙ ap (λ x. x k) (fold-roll-Formula (ℕ → Bool) (formula_fits_step g n) (Formula-F.Exists bs f))

pub ruleset fits_layers = (fits_not, fits_and, fits_or, fits_implies, fits_iff, fits_for_all, fits_exists)

-- ---- lists of formulas

greatest_le : (fs : List Formula) (n : ℕ) → nat_le (greatest (map depth fs)) n ≡ list_all (λ f. nat_le (depth f) n) fs
greatest_le [] n = le-leb 0 n (omega arith)
greatest_le (f ∷ fs) n = max_within (depth f) (greatest (map depth fs)) n ∙ ap (λ b. nat_le (depth f) n && b) (greatest_le fs n)

-- a conjunction or disjunction of fewer than two parts is at most n deep exactly when each part is
pub shallow_few : (fs : List Formula) (n : ℕ) → length fs < 2 → nat_le (list_depth (map depth fs)) n ≡ list_all (λ f. nat_le (depth f) n) fs
shallow_few fs n few = rw (length-map fs depth, lt-leb 2 (length fs) few) (greatest_le fs n)

-- with two parts or more, it is at most k + 1 deep exactly when each part is at most k deep
pub shallow_many : (fs : List Formula) (n k : ℕ) → 2 ≤ length fs → n ≡ k + 1 → nat_le (list_depth (map depth fs)) n ≡ list_all (λ f. nat_le (depth f) k) fs
shallow_many fs n k many is = rw (length-map fs depth, le-leb 2 (length fs) many) (one (greatest (map depth fs)) ∙ greatest_le fs k) where
  one : (m : ℕ) → nat_le (1 + m) n ≡ nat_le m k
  one m = grind (arith, nat_tests)

pub shallow_none : (fs : List Formula) → 2 ≤ length fs → nat_le (list_depth (map depth fs)) 0 ≡ false
shallow_none fs many = rw (length-map fs depth, le-leb 2 (length fs) many) (none (greatest (map depth fs))) where
  none : (m : ℕ) → nat_le (1 + m) 0 ≡ false
  none m = grind (arith, nat_tests)

-- no part of a conjunction or disjunction is deeper than the whole, so a bound on the depth of the whole holds for each part
pub parts_within : (fs : List Formula) (k n : ℕ) → k + list_depth (map depth fs) < n → All (λ f. k + depth f < n) fs
parts_within fs k n whole i d within =
    omega (arith, whole, greatest_at fs i d within, cond_more (nat_le 2 (length (map depth fs))) (greatest (map depth fs)))

-- ---- tests of lists, item by item

pub one_more : {X : Type 0} (p : X → Bool) (xs : List X) (i : ℕ) (x : X) → i < length xs → x ≡ get_or xs i x → list_all p (take i xs) ≡ true → p x ≡ true → list_all p (take (i + 1) xs) ≡ true
one_more p xs i x within is before passes = list_all_more p xs i x within ∙ and_from _ _ before (ap p (sym is) ∙ passes)

pub all_pass : {X : Type 0} (p : X → Bool) (xs : List X) (i : ℕ) → length xs ≤ i → list_all p (take i xs) ≡ true → list_all p xs ≡ true
all_pass p xs i past before = ap (list_all p) (sym (take_all i xs past)) ∙ before
