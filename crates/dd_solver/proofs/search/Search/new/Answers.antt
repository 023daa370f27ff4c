use Rattle.std.proofs.Common.{rules, ◌≡◌, ◌<◌, ◌^◌, ◌∙◌, [], length, true}
use Rattle.std.specs.Prelude.{replicate}
use Rattle.dd_trail.specs.Copies.{AreCopied}
use Rattle.dd_solver.specs.searching.Search.{all_known, known_through}
use Rattle.dd_solver.proofs.Moves.{search_first, alive_first}
use Rattle.dd_solver.proofs.search.Search.new.Goals as goal

pub invariant_of-result-2 : goal.invariant_of-result-2
invariant_of-result-2 c =
    let n = c.args.variables in
    let cs = c.args.clauses.now in
    let marked : length c.in_ok-vec.field-0.items ≡ n = search rules in
    let few : n < 2 ^ 32 = search rules in
    let alive : c.in_ok-alive.alive.items ≡ replicate (length cs) true = search rules in
    let first = alive_first cs c.in_ok-alive.alive.items alive in
    let known : c.new-database.result ≡ known_through (all_known cs) [] = c.new-database.ensures ∙ rw c.as_slice.ensures.value first.same in
    let copied : AreCopied (known_through (all_known cs) []) (record { numbers = c.watches-2.inside.numbers.items; codes = c.watches-2.inside.literals.items }) = rw (← known, c.watches-2.view_is) c.loop-place.invariant in
    rw (c.in_ok-new.ensures.variables, c.in_ok-new.ensures.entries, c.new-3.ensures.items) (search_first n cs c.requires, marked, few, first, copied)
