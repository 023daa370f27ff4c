use Rattle.std.proofs.Common.{◌-◌, false, set, take, sym, ◌∙◌, subst, arith}
use Rattle.dd_clause.specs.Clauses.{negation}
use Rattle.dd_trail.specs.{declared.trail.Entry.Entry, keeping.Values.IsDenied, keeping.Values.code, lemmas.Trails.take_shorter}
use Rattle.dd_trail.proofs.Denied.{denied_less}
use Rattle.dd_trail.proofs.trail.Trail.undo.Goals as goal

pub loop-self-preserved : goal.loop-self-preserved
loop-self-preserved c =
    let s = c.loop-self.self-inside in
    let t = s.entries.items in
    let j = c.len-last.result - 1 in
    let e = c.index-entry.result.now in
    let v = denied_less s.variables t s.denied.items j e (omega (arith, s.entries.ok.0)) c.loop-self.invariant.denied in
    let v' = subst (λ (x : Entry). IsDenied s.variables (take j t) (set s.denied.items (code (negation x.literal)) false)) (sym c.index-entry.ensures) v in
    let kept = take_shorter t c.args.place j (omega arith) ∙ c.loop-self.invariant.kept in
    rw (c.truncate.ensures.items, c.code_of.ensures, c.negation.ensures) (record { denied = v'; variables = c.loop-self.invariant.variables; kept = kept })
