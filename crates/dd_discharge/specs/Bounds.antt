-- The result of a discharge: the result of the simplex run of its program, over the least common denominator.
use Rattle.std.specs.Prelude.{ℕ, ◌⊎◌, pos, List, ◌++◌, map, length}
use Rattle.dd_lattice.specs.Place.{Place}
use Rattle.dd_fraction.specs.Exact.{Exact, whole_of}
use Rattle.dd_simplex.specs.{Programs.LinearProgram, Runs.RunEnds, Runs.RunOverflows, Runs.RunPivots}
use Rattle.dd_formula.specs.LocalRule.{LocalRule}
use Rattle.dd_rows.specs.declared.rows.{Row.Row, Rows.Rows}
use Rattle.dd_rows.specs.Programs.{IsProgramOf, IsLargeProgram, column_count}
use Rattle.dd_discharge.specs.declared.{bound.Bound.Bound, fault.DischargeFault.DischargeFault}
use Rattle.dd_discharge.specs.Denominators.{HasUnprinted, IsPrintedAs}
use Rattle.dd_simplex.specs.Programs as simplex
use Rattle.dd_discharge.specs.declared.fault.DischargeFault.TheVariants as fault

-- a row with fractions in place of whole numbers
abbrev pub row_of_fractions : Row → simplex.ProgramRow
row_of_fractions r = record { coefficients = map whole_of r.coefficients; bound = whole_of (pos r.bound) }

-- the linear program of the rows
abbrev pub in_fractions : ℕ → List Row → LinearProgram
in_fractions columns rows = record { columns = columns; rows = map row_of_fractions rows }

-- the run ends, and b is its result, over the least common denominator
pub record EndsWith (p : LinearProgram) (pivots : ℕ) (b : Bound) : Type 0 where
  pub value : Exact
  pub columns : List Exact
  pub duals : List Exact
  pub ends : RunEnds p pivots value columns duals
  pub printed : IsPrintedAs value columns duals b

-- the run ends, but a number of its result can't be printed
pub record EndsUnprinted (p : LinearProgram) (pivots : ℕ) : Type 0 where
  pub value : Exact
  pub columns : List Exact
  pub duals : List Exact
  pub ends : RunEnds p pivots value columns duals
  pub unprinted : HasUnprinted (columns ++ duals)

-- what each fault says of a run that gives no bound; a run never fails with `Large`, and `Memory` says nothing
abbrev pub GivesNone : LinearProgram → ℕ → DischargeFault → Type 0
GivesNone p pivots fault.Large = ⊥
GivesNone p pivots fault.Overflow = RunOverflows p pivots ⊎ EndsUnprinted p pivots
GivesNone p pivots fault.Pivots = RunPivots p pivots
GivesNone p pivots fault.Memory = Unit {0}

-- the linear program of p, if p is the program of a rule along `vectors` vectors
abbrev pub linear_program : ℕ → Rows → LinearProgram
linear_program vectors p = in_fractions (column_count vectors (length p.patterns)) p.rows

-- the rule has a program along the vectors, and its run ends with the bound b
pub record IsBoundOf (x : LocalRule) (ws : List ℕ) (radius margin : ℕ) (vs : List Place) (pivots : ℕ) (b : Bound) : Type 0 where
  pub program : Rows
  pub is_program : IsProgramOf x ws radius margin vs program
  pub ends : EndsWith (linear_program (length vs) program) pivots b

-- a number of the run is greater than 2^127 - 1 in absolute value, or a number of its result can't be printed
pub record Overflows (x : LocalRule) (ws : List ℕ) (radius margin : ℕ) (vs : List Place) (pivots : ℕ) : Type 0 where
  pub program : Rows
  pub is_program : IsProgramOf x ws radius margin vs program
  pub over : RunOverflows (linear_program (length vs) program) pivots ⊎ EndsUnprinted (linear_program (length vs) program) pivots

-- the run has not ended after this many pivots
pub record StopsAtPivots (x : LocalRule) (ws : List ℕ) (radius margin : ℕ) (vs : List Place) (pivots : ℕ) : Type 0 where
  pub program : Rows
  pub is_program : IsProgramOf x ws radius margin vs program
  pub stops : RunPivots (linear_program (length vs) program) pivots

-- what each fault says of the discharge; `Memory` says nothing
abbrev pub IsDischargeFault : LocalRule → List ℕ → ℕ → ℕ → List Place → ℕ → DischargeFault → Type 0
IsDischargeFault x ws radius margin vs pivots fault.Large = IsLargeProgram x ws radius margin vs
IsDischargeFault x ws radius margin vs pivots fault.Overflow = Overflows x ws radius margin vs pivots
IsDischargeFault x ws radius margin vs pivots fault.Pivots = StopsAtPivots x ws radius margin vs pivots
IsDischargeFault x ws radius margin vs pivots fault.Memory = Unit {0}
