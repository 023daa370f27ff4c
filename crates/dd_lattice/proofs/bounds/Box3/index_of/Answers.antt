use Rattle.std.proofs.Common.{refl}
use Rattle.dd_lattice.specs.lemmas.BoxLaws.{place_at_index}
use Rattle.dd_lattice.proofs.bounds.Box3.index_of.Goals as goal

pub returns-then-holds-clause-undone : goal.returns-then-holds-clause-undone
returns-then-holds-clause-undone c = rw c.number.ensures.value (place_at_index c.args.self.now c.args.p.now (c.if-holds.ensures.0 refl))
