use Rattle.std.proofs.Common.{◌≡◌, take, drop, true, [], ◌∷◌, ◌++◌, length, ap, ◌∙◌, arith}
use Rattle.std.proofs.lemmas.List.{length-take, length-append, length-drop}
use Rattle.std.specs.Option.{MatchOption}
use Rattle.dd_derivation.specs.declared.step.Step.{Step}
use Rattle.dd_solver.specs.searching.{Search.all_known, Analysis.is_rightly_learned, Analysis.Asserts}
use Rattle.dd_solver.specs.searching.{Deleting.MayDelete, Search.known_through}
use Rattle.dd_trail.specs.Copies.{AreCopied}
use Rattle.dd_solver.specs.lemmas.Steps.{through_more}
use Rattle.dd_solver.proofs.Moves.{search_learned, alive_more, goes_on, copied_after}
use Rattle.dd_solver.proofs.search.Search.analyse.Goals as goal

pub invariant_of-self-2 : goal.invariant_of-self-2
invariant_of-self-2 c =
    let i = c.self.inside in
    let n = i.trail.variables in
    let now = known_through (all_known i.clauses.now) i.steps.items in
    let s : Step = record { clause = c.in_ok-clause.clause; hints = c.in_ok-hints.hints; deletes = c.from_vec-deletes.result } in
    let e : s.clause ≡ c.in_ok-learned.learned.literals.items = c.in_ok-clause.ensures.ok ∙ c.as_slice-6.ensures.value in
    let d : c.new-database.result ≡ now = c.new-database.ensures ∙ rw (c.as_slice.ensures.value, c.as_slice-2.ensures.value) c.self.invariant.3.same in
    let m : length c.as_mut_slice.result.now ≡ n = ap length c.as_mut_slice.ensures.value ∙ c.self.invariant.1 in
    let r : is_rightly_learned n now s.clause s.hints ≡ true = rw (e, c.in_ok-hints.ensures, c.as_slice-7.ensures.value, ← d, ← m) c.in_ok-learned.ensures.right in
    let f : MayDelete now (length i.clauses.now) i.trail.entries s.deletes = rw (c.from_vec-deletes.ensures, ← d) c.in_ok-numbers.ensures in
    let w = c.learn.new.marked in
    let same : length w ≡ length i.marked.items = c.learn.auto.marked ∙ ap length c.as_mut_slice.ensures.value in
    let kept : length (take i.marked.len (w ++ drop (length w) i.marked.items)) ≡ n = omega (arith, length-take i.marked.len (w ++ drop (length w) i.marked.items), length-append w (drop (length w) i.marked.items), length-drop (length w) i.marked.items, same, i.marked.ok.0, c.self.invariant.1) in
    let copied : AreCopied (known_through (all_known i.clauses.now) (i.steps.items ++ s ∷ [])) c.note_deleted.new.self = rw (c.note_deleted.ensures, through_more (all_known i.clauses.now) i.steps.items s) (copied_after now i.watches s c.self.invariant.4) in
    rw c.in_ok-push_step.ensures.steps (search_learned n i.clauses.now i.steps.items i.trail.entries c.self.invariant.0 s r f, kept, c.self.invariant.2, alive_more i.clauses.now i.steps.items i.alive.items c.push_step.new.alive.items s c.self.invariant.3 c.in_ok-push_step.ensures.length c.in_ok-push_step.ensures.alive f.deletable, copied)

pub returns-clause-backjump : goal.returns-clause-backjump
returns-clause-backjump c =
    let i = c.self.inside in
    let n = i.trail.variables in
    let now = known_through (all_known i.clauses.now) i.steps.items in
    let s : Step = record { clause = c.in_ok-clause.clause; hints = c.in_ok-hints.hints; deletes = c.from_vec-deletes.result } in
    let e : s.clause ≡ c.in_ok-learned.learned.literals.items = c.in_ok-clause.ensures.ok ∙ c.as_slice-6.ensures.value in
    let d : c.new-database.result ≡ now = c.new-database.ensures ∙ rw (c.as_slice.ensures.value, c.as_slice-2.ensures.value) c.self.invariant.3.same in
    let m : length c.as_mut_slice.result.now ≡ n = ap length c.as_mut_slice.ensures.value ∙ c.self.invariant.1 in
    let r : is_rightly_learned n now s.clause s.hints ≡ true = rw (e, c.in_ok-hints.ensures, c.as_slice-7.ensures.value, ← d, ← m) c.in_ok-learned.ensures.right in
    let f : MayDelete now (length i.clauses.now) i.trail.entries s.deletes = rw (c.from_vec-deletes.ensures, ← d) c.in_ok-numbers.ensures in
    let t : MatchOption c.in_ok-learned.learned.backjump (s.clause ≡ []) (Asserts i.trail.entries s.clause) = rw e c.in_ok-learned.ensures.backjump in
    rw (c.watch_last.ensures, c.in_ok-push_step.ensures.steps) (goes_on n i.clauses.now i.steps.items i.trail.entries c.self.invariant.0 s c.in_ok-learned.learned.backjump r f t)
