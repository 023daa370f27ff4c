use Rattle.std.proofs.Common.{◌-◌, List, Some, length, arith, refl, ap, sym, ◌∙◌}
use Rattle.std.proofs.lemmas.Option.{slice_get_read}
use Rattle.dd_clause.specs.declared.clause.Literal.{Literal}
use Rattle.dd_derivation.specs.declared.step.Step.{Step}
use Rattle.dd_derivation.specs.lemmas.Numbers.{in_clauses, in_steps, deleted_place, past_all}
use Rattle.dd_derivation.proofs.known.Known.find_clause.Goals as goal

pub returns-then-place-self : goal.returns-then-place-self
returns-then-place-self c =
    let k = c.self.inside in
    rw (← c.self.view_is) (sym (past_all k.clauses.now k.steps.now k.alive.now c.args.number (omega arith) c.self.invariant))

pub returns-then-not-self-place : goal.returns-then-not-self-place
returns-then-not-self-place c =
    let k = c.self.inside in
    rw (← c.self.view_is) (sym (deleted_place k.clauses.now k.steps.now k.alive.now c.args.number c.if-number-eq0.false c.self.invariant c.if-not-self-place.true))

pub returns-then-place-self-2 : goal.returns-then-place-self-2
returns-then-place-self-2 c =
    let k = c.self.inside in
    let clause = c.index-self-place.result in
    let found = in_clauses k.clauses.now k.steps.now k.alive.now c.args.number clause c.if-number-eq0.false c.self.invariant (slice_get_read k.clauses.now (length k.clauses.now) (c.args.number - 1) clause refl c.if-place-self-2.true c.index-self-place.is) c.if-not-self-place.false in
    rw (← c.self.view_is) (ap (λ (x : List Literal). Some x) (c.literals.ensures ∙ sym c.index-self-place.is) ∙ sym found)

pub returns : goal.returns
returns c =
    let k = c.self.inside in
    let s = c.index-self-place-2.result in
    let found = in_steps k.clauses.now k.steps.now k.alive.now c.args.number s (omega arith) c.self.invariant (slice_get_read k.steps.now (length k.steps.now) (c.args.number - 1 - length k.clauses.now) s refl (omega arith) c.index-self-place-2.is) c.if-not-self-place.false in
    rw (← c.self.view_is) (ap (λ (x : List Literal). Some x) (c.literals-2.ensures ∙ ap (λ (x : Step). x.clause) (sym c.index-self-place-2.is)) ∙ sym found)
