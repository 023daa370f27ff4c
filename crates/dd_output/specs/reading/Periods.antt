-- Readers of periods, and of the shear that may follow two or three periods.
use Rattle.std.specs.Prelude.{ℕ, List, [], ◌∷◌, ◌++◌, cond, ◌==◌, nat_lt, codes}
use Rattle.dd_certificate.specs.Bounds.{most_number}
use Rattle.dd_output.specs.reading.Stops.{Read, number_at, map_at, Entry, item, last, entries_at, choice_at}
use Rattle.dd_output.specs.reading.Forms.{Form, nothing, number, after}

-- what the line ends with: its last period, or a shear
pub data PeriodsEnd : Type 0 where
  ends : ℕ → PeriodsEnd
  shears : ℕ → PeriodsEnd

abbrev pub period_of : ℕ × ℕ → Entry ℕ PeriodsEnd
period_of n = cond (n.1 == 10) (last (ends n.0)) (item n.0)

abbrev pub period_at : List ℕ → Read (Entry ℕ PeriodsEnd)
period_at = map_at period_of (number_at 0 most_number 10 32 nothing)

abbrev pub shear_of : ℕ → Entry ℕ PeriodsEnd
shear_of n = last (shears n)

abbrev pub shear_at : List ℕ → Read (Entry ℕ PeriodsEnd)
shear_at = map_at shear_of (after (codes "shear ") (number 1 most_number 10)).read

-- The entry with index k, from 0. 115 is the s of `shear`.
unfoldable pub period_entry : ℕ → List ℕ → Read (Entry ℕ PeriodsEnd)
period_entry k bytes = cond (nat_lt k 2) (period_at bytes) (cond (nat_lt k 3) (choice_at 115 shear_at period_at bytes) (shear_at bytes))

abbrev pub periods_of : List ℕ × PeriodsEnd → List ℕ × ℕ
periods_of (ps, ends n) = (ps ++ n ∷ [], 0)
periods_of (ps, shears n) = (ps, n)

-- the periods up to the end of their line, and the shear, which is 0 if none is written
unfoldable pub periods : Form (List ℕ × ℕ)
periods = record { read = map_at periods_of (entries_at period_entry 0); least = 48 ∷ 10 ∷ [] }
