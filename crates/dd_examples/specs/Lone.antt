-- A configuration without a period: the symbol 1 at the origin, and 0 everywhere else.
use Rattle.std.specs.{Prelude.ℕ, Prelude.cond, Prelude.◌&&◌, Prelude.pos, Ordering.int_eq}
use Rattle.dd_lattice.specs.declared.position.Cell.{Cell}

abbrev pub lone : Cell → ℕ
lone c = cond (int_eq c.position.x (pos 0) && int_eq c.position.y (pos 0) && int_eq c.position.z (pos 0)) 1 0
