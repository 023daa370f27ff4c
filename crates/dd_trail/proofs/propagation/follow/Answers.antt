use Rattle.std.proofs.Common.{Some}
use Rattle.dd_derivation.specs.Derivations.{is_among}
use Rattle.dd_trail.specs.{declared.trail.Entry.Entry, Trails.EntryList, Trails.falses}
use Rattle.dd_trail.specs.lemmas.Reasons.{forced_in_range, forced_new, entry_forced, extends_same, extends_push}
use Rattle.dd_trail.proofs.propagation.follow.Goals as goal

pub assign-requires-clause-in_range : goal.assign-requires-clause-in_range
assign-requires-clause-in_range c =
    forced_in_range c.args.database.now c.args.trail.now.variables (is_among (falses c.args.trail.now.entries)) c.in-Unit.number c.in-Unit.literal c.requires.in_range c.in-Unit.ensures

pub assign-requires-clause-fresh : goal.assign-requires-clause-fresh
assign-requires-clause-fresh c = forced_new c.args.database.now (falses c.args.trail.now.entries) c.in-Unit.number c.in-Unit.literal c.in-Unit.ensures

pub returns-in_ok-assign-in-Unit-clause-extends : goal.returns-in_ok-assign-in-Unit-clause-extends
returns-in_ok-assign-in-Unit-clause-extends c =
    let known = c.args.database.now in
    let old : EntryList = c.args.trail.now in
    let e : Entry = record { literal = c.in-Unit.literal; reason = Some c.in-Unit.number } in
    let o = entry_forced old.variables known old.entries c.in-Unit.number c.in-Unit.literal c.requires.in_range c.in-Unit.ensures in
    rw (c.assign.ensures.variables, c.in_ok-assign-in-Unit.ensures.entries) (extends_push known old old e (extends_same known old c.requires.trail) o (λ none. cc))
