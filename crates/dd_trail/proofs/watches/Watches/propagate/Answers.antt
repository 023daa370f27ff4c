use Rattle.std.proofs.Common.{sym, ◌∙◌, ◌≡◌}
use Rattle.std.proofs.lemmas.Bool.{false≢true}
use Rattle.dd_derivation.specs.{declared.propagation.Finding.TheVariants.Forced, Derivations.hint_finding, Derivations.is_among}
use Rattle.dd_trail.specs.{Trails.falses, Reasons.AreInRange}
use Rattle.dd_trail.specs.lemmas.Reasons.{forced_in_range, forced_new}
use Rattle.dd_trail.proofs.watches.Watches.propagate.Goals as goal

pub returns-in-Unit-clause-conflict : goal.returns-in-Unit-clause-conflict
returns-in-Unit-clause-conflict c =
    let known = c.args.database.now in
    let t = c.loop-place.trail in
    let l = c.in-Unit.field-1 in
    let h : hint_finding known (is_among (falses t.entries)) c.in-Unit.field-0 ≡ Forced l = c.in-Unit.ensures in
    let within : AreInRange t.variables known = rw c.loop-place.invariant.0.variables c.requires.in_range in
    let i = forced_in_range known t.variables (is_among (falses t.entries)) c.in-Unit.field-0 l within h in
    λ full _ _ _. absurd (false≢true (sym (forced_new known (falses t.entries) c.in-Unit.field-0 l h) ∙ full l.variable i.0 i.1))
