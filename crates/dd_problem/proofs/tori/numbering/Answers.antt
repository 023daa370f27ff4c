use Rattle.std.proofs.Common.{◌≡◌, ◌∙◌, arith}
use Rattle.dd_problem.specs.lemmas.TorusSizes.{torus_sizes}
use Rattle.dd_problem.proofs.TorusCalls.{count_fits, numbering_made}
use Rattle.dd_problem.proofs.tori.numbering.Goals as goal

pub overflow_mul-periods-3 : goal.overflow_mul-periods-3
overflow_mul-periods-3 c =
    let all = count_fits c.args.premise.now c.args.periods.now c.nodes-nodes.ensures.kept c.requires c.nodes-nodes.result c.nodes-nodes.ensures.value in
    omega (arith, all)

pub unwrap-requires : goal.unwrap-requires
unwrap-requires c =
    c.ok.ensures.variant
    ∙ numbering_made c.args.premise.now c.args.periods.now c.nodes-nodes.ensures.kept c.requires c.new.result (λ back. back ≡ c.in_ok-numbers.numbers) c.dim.result c.nodes-nodes.result
    c.in_ok-numbers.numbers.items c.dim.ensures c.nodes-nodes.ensures.value c.in_ok-numbers.ensures c.new.ensures

pub overflow_mul-periods-2 : goal.overflow_mul-periods-2
overflow_mul-periods-2 c =
    let all = (torus_sizes c.args.premise.now c.args.periods.now c.nodes-nodes.ensures.kept c.requires).zyx_most in
    omega (arith, all)

pub overflow_mul-periods : goal.overflow_mul-periods
overflow_mul-periods c =
    let all = (torus_sizes c.args.premise.now c.args.periods.now c.nodes-nodes.ensures.kept c.requires).zy_most in
    omega (arith, all)
