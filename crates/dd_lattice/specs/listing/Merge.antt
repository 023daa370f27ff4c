-- One step of a walk through two ascending lists, a left one and a right one. The step compares their next positions, p and q, and gives the lesser.
use Rattle.std.specs.{Prelude.ℕ, declared.cmp.Ordering.Ordering}
use Rattle.std.specs.declared.cmp.Ordering.TheVariants.{Less, Equal, Greater}
use Rattle.dd_lattice.specs.Place.{Place}

abbrev pub next_position : Ordering → Place → Place → Place
next_position Less p q = p
next_position Equal p q = p
next_position Greater p q = q

-- how many positions the step takes from the left list
abbrev pub from_left : Ordering → ℕ
from_left Less = 1
from_left Equal = 1
from_left Greater = 0

-- how many positions the step takes from the right list
abbrev pub from_right : Ordering → ℕ
from_right Less = 0
from_right Equal = 1
from_right Greater = 1
