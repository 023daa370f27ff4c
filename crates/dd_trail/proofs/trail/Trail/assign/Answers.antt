use Rattle.std.proofs.{Common.◌≡◌, Common.false, Common.arith, lemmas.Grind.common_steps}
use Rattle.dd_clause.specs.Clauses.{IsLiteralInRange}
use Rattle.dd_derivation.specs.Derivations.{has_variable}
use Rattle.dd_trail.specs.Trails.{falses}
use Rattle.dd_trail.proofs.Denied.{room_more}
use Rattle.dd_trail.proofs.trail.Trail.assign.Goals as goal

pub returns-clause-room : goal.returns-clause-room
returns-clause-room c =
    let t = c.self.inside in
    let e = c.args.entry in
    let r : IsLiteralInRange t.variables e.literal = rw (← c.self.view_is) at c.requires.in_range in
    let f : has_variable e.literal.variable (falses t.entries.items) ≡ false = rw (← c.self.view_is) at c.requires.fresh in
    rw (← c.self.view_is) (room_more t.variables t.entries.items t.denied.items e c.self.invariant r f)

pub invariant_of-self-2 : goal.invariant_of-self-2
invariant_of-self-2 c = grind (arith, common_steps)
