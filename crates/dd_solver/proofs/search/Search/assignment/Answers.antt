use Rattle.std.proofs.Common.{◌≡◌, ℕ, ◌≤◌, true, false, length, subst, sym}
use Rattle.dd_clause.specs.Clauses.{Satisfies}
use Rattle.dd_values.specs.{Variables.true_variables, lemmas.Results.if_ok_both}
use Rattle.dd_derivation.specs.Derivations.{is_among, has_variable}
use Rattle.dd_trail.specs.Trails.{falses}
use Rattle.dd_solver.specs.searching.Search.{State, AreOpen}
use Rattle.dd_solver.proofs.Moves.{values_satisfy}
use Rattle.dd_solver.proofs.search.Search.assignment.Goals as goal

pub returns : goal.returns
returns c =
    let i = c.self.inside in
    let s : State = record { variables = i.trail.variables; clauses = i.clauses.now; steps = i.steps.items; entries = i.trail.entries } in
    let open' : AreOpen s = subst AreOpen (sym c.self.view_is) c.requires.open in
    let full : (v : ℕ) → 1 ≤ v → v ≤ s.variables → has_variable v (falses s.entries) ≡ true = subst (λ (x : State). (v : ℕ) → 1 ≤ v → v ≤ x.variables → has_variable v (falses x.entries) ≡ true) (sym c.self.view_is) c.requires.full in
    rw (← c.self.view_is) (if_ok_both c.assignment.result (λ values. length values ≡ s.variables) (λ values. (v : ℕ) → 1 ≤ v → v ≤ s.variables → true_variables values v ≡ is_among (falses s.entries) (record { variable = v; positive = false })) (λ values. (length values ≡ s.variables) × Satisfies (true_variables values) s.clauses) (λ values l e. (l, values_satisfy s values c.self.invariant.0 open' full e)) c.assignment.ensures.length c.assignment.ensures.values)
