-- The parts of a formula, each with a proof of a claim about it.
use Rattle.dd_expansion.specs.declared.formulas.Formula.{Formula, TheFolds.map-Formula, TheOpen.Formula-F}

abbrev pub Known : (Formula → Type 0) → Type 0
Known P = (f : Formula) × P f

-- the same parts without their proofs
abbrev pub layer : (P : Formula → Type 0) → Formula-F (Known P) → Formula-F Formula
layer P y = map-Formula (Known P) Formula (λ e. e.0) y
