use Rattle.std.proofs.Common.{◌≡◌, ◌+◌, ◌<◌, ◌^◌, ◌++◌, length, map, ap, ◌∙◌, arith}
use Rattle.std.proofs.lemmas.List.{length-append, length-map}
use Rattle.dd_elimination.specs.Reductions.{whole_step, IsReduction}
use Rattle.dd_elimination.proofs.Refuting.{reduction_refutes}
use Rattle.dd_elimination.proofs.search.whole_refutation.Goals as goal

pub returns-in-Some : goal.returns-in-Some
returns-in-Some c =
    let cnf = c.args.cnf.now in
    let reduced = c.args.reduced.now in
    let names = reduced.names.items in
    let numbers = reduced.numbers.items in
    let steps = c.args.elimination.steps.items in
    let found = c.args.steps in
    let step = whole_step names numbers (length cnf.clauses + length steps) in
    let right : IsReduction cnf.variables cnf.clauses steps reduced.cnf.variables reduced.cnf.clauses names numbers = rw c.as_slice.ensures.value at (c.in_ok-is_reduction.ensures c.if-not-branch.false) in
    let all : c.in-Some.whole ≡ steps ++ map step found = rw c.in-Some.is at c.in_ok-whole.ensures.all in
    let few : length cnf.clauses + length c.in-Some.whole < 2 ^ 64 = rw c.in-Some.is at c.in_ok-whole.ensures.few in
    let count : length c.in-Some.whole ≡ length steps + length found = ap length all ∙ length-append steps (map step found) ∙ ap (λ n. length steps + n) (length-map found step) in
    rw all (reduction_refutes cnf.variables cnf.clauses steps reduced.cnf.variables reduced.cnf.clauses names numbers found right c.requires (omega (arith, count, few)))
