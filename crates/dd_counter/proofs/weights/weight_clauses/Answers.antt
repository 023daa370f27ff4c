use Rattle.std.proofs.Common.{arith, ap, ◌∙◌, ◌++◌, ◌*◌}
use Rattle.std.specs.Prelude.{◌^◌}
use Rattle.dd_boxes.specs.Goals.{always}
use Rattle.dd_pattern.specs.Periods.{periods_of, periods_volume}
use Rattle.dd_problem.specs.{Problems.torus_problem, lemmas.TorusSizes.torus_sizes}
use Rattle.dd_counter.specs.Counter.{last_refused}
use Rattle.dd_counter.proofs.Whole.{inputs_there, few_there, enough, exactly, shown}
use Rattle.dd_counter.proofs.weights.weight_clauses.Goals as goal

pub push_rows-requires-clause-inputs : goal.push_rows-requires-clause-inputs
push_rows-requires-clause-inputs c =
    inputs_there c.args.rule.now (periods_of c.args.periods 0) c.args.weights.now c.in_ok-cnf.cnf c.nodes-nodes.result c.nodes-nodes.ensures.kept c.requires.periods c.requires.weights
    c.in_ok-cnf.ensures.exact c.nodes-nodes.ensures.value

pub push_rows-requires-clause-few : goal.push_rows-requires-clause-few
push_rows-requires-clause-few c =
    let x = c.args.rule.now in
    let p = periods_of c.args.periods 0 in
    few_there (torus_problem x always p) c.in_ok-cnf.cnf c.args.weights.now c.args.below (periods_volume p * c.nodes-nodes.result) (periods_volume p * x.nodes) (2 ^ 24) c.in_ok-cnf.ensures.exact
    (ap (λ n. periods_volume p * n) c.nodes-nodes.ensures.value) (enough x.dimension x p c.args.weights.now c.args.below c.requires.periods.periods c.requires.count)

pub returns-clause-exact : goal.returns-clause-exact
returns-clause-exact c =
    let x = c.args.rule.now in
    let p = periods_of c.args.periods 0 in
    exactly (torus_problem x always p) c.in_ok-cnf.cnf c.push_rows.new.cnf c.push_refusal.new.cnf c.args.weights.now c.args.below (periods_volume p * c.nodes-nodes.result) (periods_volume p * x.nodes)
    c.in_ok-last.last.items c.in_ok-cnf.ensures.exact (ap (λ n. periods_volume p * n) c.nodes-nodes.ensures.value) c.in_ok-last.ensures.clauses c.in_ok-last.ensures.signals
    c.in_ok-push_refusal.ensures.variables
    (c.in_ok-push_refusal.ensures.ok ∙ ap (λ xs. c.push_rows.new.cnf.clauses ++ last_refused c.args.below xs) c.deref.ensures.value)

pub returns-clause-shows : goal.returns-clause-shows
returns-clause-shows c =
    let x = c.args.rule.now in
    let p = periods_of c.args.periods 0 in
    shown x p c.args.weights.now c.args.below c.push_refusal.new.cnf c.nodes-nodes.ensures.kept c.requires.periods c.requires.weights
    (exactly (torus_problem x always p) c.in_ok-cnf.cnf c.push_rows.new.cnf c.push_refusal.new.cnf c.args.weights.now c.args.below (periods_volume p * c.nodes-nodes.result) (periods_volume p * x.nodes)
    c.in_ok-last.last.items c.in_ok-cnf.ensures.exact (ap (λ n. periods_volume p * n) c.nodes-nodes.ensures.value) c.in_ok-last.ensures.clauses c.in_ok-last.ensures.signals
    c.in_ok-push_refusal.ensures.variables
    (c.in_ok-push_refusal.ensures.ok ∙ ap (λ xs. c.push_rows.new.cnf.clauses ++ last_refused c.args.below xs) c.deref.ensures.value))

pub overflow_mul-cells : goal.overflow_mul-cells
overflow_mul-cells c =
    let most = (torus_sizes c.args.rule.now (periods_of c.args.periods 0) c.nodes-nodes.ensures.kept c.requires.periods).zy_most in
    omega (arith, most)

pub overflow_mul-cells-2 : goal.overflow_mul-cells-2
overflow_mul-cells-2 c =
    let most = (torus_sizes c.args.rule.now (periods_of c.args.periods 0) c.nodes-nodes.ensures.kept c.requires.periods).zyx_most in
    omega (arith, most)

pub overflow_mul-cells-3 : goal.overflow_mul-cells-3
overflow_mul-cells-3 c =
    let most = (torus_sizes c.args.rule.now (periods_of c.args.periods 0) c.nodes-nodes.ensures.kept c.requires.periods).all_most in
    let same = ap (λ n. periods_volume (periods_of c.args.periods 0) * n) c.nodes-nodes.ensures.value in
    omega (arith, most, same)
