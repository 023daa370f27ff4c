use Rattle.std.proofs.Common.{None}
use Rattle.dd_trail.specs.{declared.trail.Entry.Entry, Trails.IsFree}
use Rattle.dd_solver.proofs.{Moves.search_push, Rises.push_falls}
use Rattle.dd_solver.proofs.search.Search.decide.Goals as goal

pub invariant_of-self-2 : goal.invariant_of-self-2
invariant_of-self-2 c =
    let i = c.self.inside in
    let e : Entry = record { literal = c.in-Some.literal; reason = None } in
    let free : IsFree i.trail.variables i.trail.entries c.in-Some.literal.variable = c.in-Some.ensures in
    rw (c.assign.ensures.variables, c.in_ok-assign.ensures.entries) (search_push i.trail.variables i.clauses.now i.steps.items i.trail.entries c.self.invariant.0 e (record { in_range = (free.0, free.1); fresh = free.2; follows = tt }), c.self.invariant.1, c.self.invariant.2, c.self.invariant.3, c.self.invariant.4)

pub returns-clause-decided : goal.returns-clause-decided
returns-clause-decided c = λ _. rw (c.assign.ensures.variables, c.in_ok-assign.ensures.entries, ← c.self.view_is) (push_falls c.self.inside.trail.variables c.self.inside.trail.entries _ c.in_ok-assign.ensures.room)
