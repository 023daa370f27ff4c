use Rattle.std.proofs.Common.{Some}
use Rattle.dd_derivation.specs.Derivations.{is_among}
use Rattle.dd_trail.specs.{declared.trail.Entry.Entry, Trails.EntryList, Trails.falses, Reasons.AreInRange, Copies.AreCopied}
use Rattle.dd_trail.specs.lemmas.Reasons.{forced_in_range, forced_new, entry_forced, extends_push}
use Rattle.dd_trail.proofs.watches.Watches.read.Goals.{in-Unit+in_ok-assign-in-Unit, in-Nothing}
use Rattle.dd_trail.proofs.watches.Watches.read.Goals as goal

pub assign-requires-clause-in_range : goal.assign-requires-clause-in_range
assign-requires-clause-in_range c =
    let known = c.args.database.now in
    let t = c.loop.trail in
    let within : AreInRange t.variables known = rw c.loop.invariant.0.variables c.requires.in_range in
    forced_in_range known t.variables (is_among (falses t.entries)) c.in-Unit.number c.in-Unit.literal within c.in-Unit.ensures

pub assign-requires-clause-fresh : goal.assign-requires-clause-fresh
assign-requires-clause-fresh c = forced_new c.args.database.now (falses c.loop.trail.entries) c.in-Unit.number c.in-Unit.literal c.in-Unit.ensures

pub loop-preserved : goal.loop-preserved
loop-preserved c =
    let known = c.args.database.now in
    let old : EntryList = c.args.trail.now in
    let t : EntryList = c.loop.trail in
    let copied : AreCopied known c.pass.new.self = c.pass.ensures.copied known c.loop.invariant.1 in
    elim c.match-scan.branch [
      | in-Unit+in_ok-assign-in-Unit w ↦
          let e : Entry = record { literal = w.in-Unit.literal; reason = Some w.in-Unit.number } in
          let within : AreInRange t.variables known = rw c.loop.invariant.0.variables c.requires.in_range in
          let o = entry_forced t.variables known t.entries w.in-Unit.number w.in-Unit.literal within w.in-Unit.ensures in
          rw (w.trail-is, w.assign.ensures.variables, w.in_ok-assign-in-Unit.ensures.entries) (extends_push known old t e c.loop.invariant.0 o (λ none. cc), copied)
      | in-Nothing w ↦ rw w.trail-is (c.loop.invariant.0, copied)
    ]
