-- Depths of formulas, and the greatest number of a list.
use Rattle.std.proofs.Common.{suc, arith, ◌∷◌, List, get_or, [], zero, ℕ, ◌≤◌, map, length, ◌<◌, ◌≡◌, sym, ◌+◌, ◌∙◌, ap}
use Rattle.dd_expansion.specs.{Limits.greatest, Limits.depth, Limits.depth_step, declared.formulas.Formula.Formula}
use Rattle.dd_expansion.specs.declared.formulas.{Formula.TheFolds.fold-roll-Formula, BallOf.BallOf}
use Rattle.dd_expansion.specs.declared.formulas.Formula.TheOpen.{Formula-F}
use Rattle.dd_expansion.specs.declared.formulas.Formula.TheVariants as formula

pub at_most_greatest : (ns : List ℕ) (k : ℕ) → get_or ns k 0 ≤ greatest ns
at_most_greatest [] k = omega arith
at_most_greatest (n ∷ ns) zero = omega arith
at_most_greatest (n ∷ ns) (suc k) = let rest = at_most_greatest ns k in omega arith

pub greatest_at : (fs : List Formula) (i : ℕ) (d : Formula) → i < length fs → depth (get_or fs i d) ≤ greatest (map depth fs)
greatest_at [] i d within = absurd (omega arith)
greatest_at (f ∷ fs) zero d within = omega arith
greatest_at (f ∷ fs) (suc i) d within = let rest = greatest_at fs i d (omega arith) in omega (arith, rest)

pub quantified_depth : (bs : List BallOf) (f : Formula) → depth (formula.ForAll bs f) ≡ 1 + depth f
quantified_depth bs f = ap depth (sym (formula.rolls-ForAll bs f)) ∙ fold-roll-Formula ℕ depth_step (Formula-F.ForAll bs f)
