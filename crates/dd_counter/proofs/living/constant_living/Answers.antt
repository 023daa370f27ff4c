use Rattle.std.proofs.Common.{arith, ap, ◌*◌}
use Rattle.dd_pattern.specs.Periods.{periods_of, periods_volume}
use Rattle.dd_problem.specs.lemmas.TorusSizes.{torus_sizes}
use Rattle.dd_counter.proofs.living.constant_living.Goals as goal

pub overflow_mul-cells : goal.overflow_mul-cells
overflow_mul-cells c =
    let most = (torus_sizes c.args.rule.now (periods_of c.args.periods 0) c.nodes-nodes.ensures.kept c.requires).zy_most in
    omega (arith, most)

pub overflow_mul-cells-2 : goal.overflow_mul-cells-2
overflow_mul-cells-2 c =
    let most = (torus_sizes c.args.rule.now (periods_of c.args.periods 0) c.nodes-nodes.ensures.kept c.requires).zyx_most in
    omega (arith, most)

pub overflow_mul-cells-3 : goal.overflow_mul-cells-3
overflow_mul-cells-3 c =
    let most = (torus_sizes c.args.rule.now (periods_of c.args.periods 0) c.nodes-nodes.ensures.kept c.requires).all_most in
    let same = ap (λ n. periods_volume (periods_of c.args.periods 0) * n) c.nodes-nodes.ensures.value in
    omega (arith, most, same)
