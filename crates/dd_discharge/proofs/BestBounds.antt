-- A certified bound is the best.
use Rattle.std.proofs.Common.{ℕ, List}
use Rattle.dd_lattice.specs.Place.{Place}
use Rattle.dd_formula.specs.LocalRule.{LocalRule}
use Rattle.dd_discharge.specs.{declared.bound.Bound.Bound, Certificates.IsBoundCertificate, Certificates.BestOf}
use Rattle.dd_discharge.proofs.Duality.{holds_at_most}

pub best_bound : (x : LocalRule) (ws : List ℕ) (radius margin : ℕ) (vs : List Place) (b : Bound) → IsBoundCertificate x ws radius margin vs b
    → BestOf x ws radius margin vs b.numerator b.denominator
best_bound x ws radius margin vs b c = record { program = c.program; is_program = c.is_program; most = holds_at_most c.program.rows _ b c.certified }
