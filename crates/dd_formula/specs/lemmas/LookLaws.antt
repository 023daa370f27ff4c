-- Look-ups: functions that give symbols to cells.
use Rattle.dd_lattice.specs.declared.position.Cell.{Cell}
use Rattle.dd_pattern.specs.Reading.{Look}
use Rattle.std.proofs.Common.{◌≡◌}

-- two look-ups that agree at each cell are equal
pub same_look : (f g : Look) → ((c : Cell) → f c ≡ g c) → f ≡ g
same_look f g h = λ i c. h c i
