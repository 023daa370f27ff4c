use Rattle.std.proofs.Common.{◌∙◌, map, ap, sym, refl}
use Rattle.std.specs.Prelude.{string_bytes}
use Rattle.dd_topology.specs.lemmas.NamingLaws.{known, unknown, map-insert_key}
use Rattle.dd_topology.proofs.names.Names.add.Goals as goal

pub returns-then-contains-clause-refusal : goal.returns-then-contains-clause-refusal
returns-then-contains-clause-refusal c =
    (refl, rw (← c.self.view_is) (known string_bytes (string_bytes c.args.name) c.self.inside.known.keys (rw c.as_str.ensures.value at (sym c.contains.ensures ∙ c.if-contains.true))))

pub returns-in-Err-clause-refusal : goal.returns-in-Err-clause-refusal
returns-in-Err-clause-refusal c = (c.in-Err.ensures.value_returned, rw (← c.self.view_is) (unknown string_bytes (string_bytes c.args.name) c.self.inside.known.keys c.in-Err.ensures.absent))

pub returns-clause-added : goal.returns-clause-added
returns-clause-added c =
    rw (← c.self.view_is)
    (ap (map string_bytes) c.in_default.ensures.keys
    ∙ map-insert_key string_bytes c.args.name c.self.inside.known.keys (rw c.as_str.ensures.value at (sym c.contains.ensures ∙ c.if-contains.false)))

pub returns-clause-first : goal.returns-clause-first
returns-clause-first c =
    rw (← c.self.view_is)
    (unknown string_bytes (string_bytes c.args.name) c.self.inside.known.keys (rw c.as_str.ensures.value at (sym c.contains.ensures ∙ c.if-contains.false)))
