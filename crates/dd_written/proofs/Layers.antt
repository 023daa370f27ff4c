-- The text of a formula, where it may stand, and its depth, each in terms of the formula's parts.
use Rattle.std.proofs.Common.{◌≡◌, ℕ, Bool, List, ap}
use Rattle.dd_written.specs.Tree.{Lexeme, Formula, roll-Formula, Formula-F, fold-roll-Formula, map-Formula}
use Rattle.dd_written.specs.Formulas.{text, text_step, stands, stands_step, tree_depth, tree_depth_step}

pub text_of : (x : Formula-F Formula) → text (roll-Formula x) ≡ text_step (map-Formula Formula (List Lexeme) text x)
text_of x = fold-roll-Formula (List Lexeme) text_step x

pub stands_of : (x : Formula-F Formula) (place : ℕ) → stands (roll-Formula x) place ≡ stands_step (map-Formula Formula (ℕ → Bool) stands x) place
stands_of x place = ap (λ (h : ℕ → Bool). h place) (fold-roll-Formula (ℕ → Bool) stands_step x)

pub depth_of : (x : Formula-F Formula) → tree_depth (roll-Formula x) ≡ tree_depth_step (map-Formula Formula ℕ tree_depth x)
depth_of x = fold-roll-Formula ℕ tree_depth_step x
