use Rattle.std.proofs.Common.{◌≡◌, false, ◌+◌, ◌<◌, None, Some, length, take, subst, sym, ap, arith, refl}
use Rattle.std.specs.Option.{is_none}
use Rattle.dd_derivation.specs.Derivations.{is_among}
use Rattle.dd_trail.specs.{declared.trail.Entry.Entry, Trails.falses}
use Rattle.dd_solver.specs.searching.{Search.all_known, Search.State, Search.IsForced, Search.known_through}
use Rattle.dd_trail.specs.lemmas.Reasons.{forced_in_range, forced_new, entry_forced}
use Rattle.dd_solver.proofs.Moves.{search_push, search_front}
use Rattle.dd_solver.proofs.Rises.{backjump_falls}
use Rattle.dd_solver.proofs.search.Search.backtrack.Goals as goal

none : Entry
none = record { literal = record { variable = 0; positive = false }; reason = None }

pub assign-requires-clause-in_range : goal.assign-requires-clause-in_range
assign-requires-clause-in_range c =
    let i = c.self.inside in
    let f : IsForced (record { variables = i.trail.variables; clauses = i.clauses.now; steps = i.steps.items; entries = i.trail.entries }) c.args.backjump = subst (λ (s : State). IsForced s c.args.backjump) (sym c.self.view_is) c.requires in
    rw c.undo.ensures.variables (forced_in_range (known_through (all_known i.clauses.now) i.steps.items) i.trail.variables (is_among (falses (take c.args.backjump.place i.trail.entries))) _ c.args.backjump.literal c.self.invariant.0.in_range f.forces)

pub assign-requires-clause-fresh : goal.assign-requires-clause-fresh
assign-requires-clause-fresh c =
    let i = c.self.inside in
    let f : IsForced (record { variables = i.trail.variables; clauses = i.clauses.now; steps = i.steps.items; entries = i.trail.entries }) c.args.backjump = subst (λ (s : State). IsForced s c.args.backjump) (sym c.self.view_is) c.requires in
    rw c.undo.ensures.entries (forced_new (known_through (all_known i.clauses.now) i.steps.items) (falses (take c.args.backjump.place i.trail.entries)) _ c.args.backjump.literal f.forces)

pub invariant_of-self-in_err-assign : goal.invariant_of-self-in_err-assign
invariant_of-self-in_err-assign c =
    let i = c.self.inside in
    rw (c.assign.ensures.variables, c.undo.ensures.variables, c.in_err-assign.ensures.failed, c.undo.ensures.entries) (search_front i.trail.variables i.clauses.now i.steps.items i.trail.entries c.self.invariant.0 c.args.backjump.place, c.self.invariant.1, c.self.invariant.2, c.self.invariant.3, c.cut.ensures (known_through (all_known i.clauses.now) i.steps.items) c.self.invariant.4)

pub invariant_of-self-2 : goal.invariant_of-self-2
invariant_of-self-2 c =
    let i = c.self.inside in
    let n = i.trail.variables in
    let now = known_through (all_known i.clauses.now) i.steps.items in
    let front = take c.args.backjump.place i.trail.entries in
    let last = length i.clauses.now + length i.steps.items in
    let e : Entry = record { literal = c.args.backjump.literal; reason = Some last } in
    let f : IsForced (record { variables = n; clauses = i.clauses.now; steps = i.steps.items; entries = i.trail.entries }) c.args.backjump = subst (λ (s : State). IsForced s c.args.backjump) (sym c.self.view_is) c.requires in
    let number : length i.clauses.now + c.len.result ≡ last = omega (arith, i.steps.ok.0) in
    let o = entry_forced n now front last c.args.backjump.literal c.self.invariant.0.in_range f.forces in
    rw (c.assign.ensures.variables, c.undo.ensures.variables, c.in_ok-assign.ensures.entries, c.undo.ensures.entries, number) (search_push n i.clauses.now i.steps.items front (search_front n i.clauses.now i.steps.items i.trail.entries c.self.invariant.0 c.args.backjump.place) e o, c.self.invariant.1, c.self.invariant.2, c.self.invariant.3, c.cut.ensures (known_through (all_known i.clauses.now) i.steps.items) c.self.invariant.4)

pub returns-clause-left : goal.returns-clause-left
unfolding none
returns-clause-left c =
    let i = c.self.inside in
    let n = i.trail.variables in
    let e : Entry = record { literal = c.args.backjump.literal; reason = Some (length i.clauses.now + c.len.result) } in
    let f : IsForced (record { variables = n; clauses = i.clauses.now; steps = i.steps.items; entries = i.trail.entries }) c.args.backjump = subst (λ (s : State). IsForced s c.args.backjump) (sym c.self.view_is) c.requires in
    let room : length (take c.args.backjump.place i.trail.entries) < n = rw (c.undo.ensures.entries, c.undo.ensures.variables) at c.in_ok-assign.ensures.room in
    rw (c.assign.ensures.variables, c.undo.ensures.variables, c.in_ok-assign.ensures.entries, c.undo.ensures.entries, ← c.self.view_is) (backjump_falls n i.trail.entries c.args.backjump.place none e room f.within (ap (λ o. is_none o) (f.decided none)) refl)
