use Rattle.std.proofs.Common.{◌∙◌, sym}
use Rattle.std.specs.Prelude.{string_bytes}
use Rattle.dd_topology.specs.lemmas.NamingLaws.{number_of-map, slice_get-number_of, unknown}
use Rattle.dd_topology.proofs.names.Names.find.Goals as goal

pub returns-in-Some-clause-number : goal.returns-in-Some-clause-number
returns-in-Some-clause-number c = rw (← c.self.view_is, number_of-map string_bytes c.args.name.now c.self.inside.known.keys) (sym c.in-Some.is ∙ c.get_index_of.ensures.index)

pub returns-in-Some-clause-exact : goal.returns-in-Some-clause-exact
returns-in-Some-clause-exact c = slice_get-number_of _ _ _ (sym (returns-in-Some-clause-number c))

pub returns-in-None-clause-number : goal.returns-in-None-clause-number
returns-in-None-clause-number c = rw (← c.self.view_is, number_of-map string_bytes c.args.name.now c.self.inside.known.keys) (sym c.in-None.is ∙ c.get_index_of.ensures.index)

pub returns-in-None-clause-exact : goal.returns-in-None-clause-exact
returns-in-None-clause-exact c = rw (← c.self.view_is) (unknown string_bytes c.args.name.now c.self.inside.known.keys (sym c.in-None.ensures.found))
