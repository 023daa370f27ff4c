use Rattle.std.specs.Prelude.{string_bytes}
use Rattle.dd_topology.specs.lemmas.NamingLaws.{are_distinct}
use Rattle.dd_topology.proofs.names.Names.count.Goals as goal

pub returns-clause-distinct : goal.returns-clause-distinct
returns-clause-distinct c = rw (← c.self.view_is) (are_distinct string_bytes c.self.inside.known.keys c.len.ensures.unique)
