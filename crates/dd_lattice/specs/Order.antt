-- Cell order: by z, then y, then x, then the node.
use Rattle.std.specs.{declared.cmp.Ordering.Ordering, Ordering.nat_cmp, Ordering.int_cmp, Ordering.on, Ordering.then_cmp}
use Rattle.dd_lattice.specs.{Place.Place, declared.position.Cell.Cell}

abbrev pub place_cmp : Place → Place → Ordering
place_cmp = then_cmp (then_cmp (on (λ p. p.z) int_cmp) (on (λ p. p.y) int_cmp)) (on (λ p. p.x) int_cmp)

abbrev pub cell_cmp : Cell → Cell → Ordering
cell_cmp = then_cmp (on (λ c. c.position) place_cmp) (on (λ c. c.node) nat_cmp)
