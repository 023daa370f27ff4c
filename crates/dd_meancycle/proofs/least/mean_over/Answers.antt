use Rattle.std.proofs.{Common.◌≡◌, Common.ℕ, Common.◌<◌, Common.◌≤◌, Common.arith, Common.sym, Common.subst, lemmas.Result.IfOk-weaker}
use Rattle.std.specs.List.{All}
use Rattle.dd_meancycle.specs.table.{Levels.IsEdgeOf, LeastMean.IsMean}
use Rattle.dd_meancycle.proofs.EdgeLaws.{all_fit, small_mean, mean_of_states}
use Rattle.dd_meancycle.proofs.least.mean_over.Goals as goal

pub table_mean-requires : goal.table_mean-requires
table_mean-requires c =
    let well = c.states.ensures.kept in record {
      some = omega (arith, c.states.ensures.value, well.some_state);
      few = omega (arith, c.states.ensures.value, well.few);
      edges = subst (λ (n : ℕ). All (IsEdgeOf n) c.args.edges.now) (sym c.states.ensures.value) (all_fit c.args.graph.now c.args.edges.now well c.requires.edges);
    }

pub in_states-requires : goal.in_states-requires
in_states-requires c =
    let is : IsMean c.args.edges.now c.args.graph.now.states c.in_ok-mean.mean = subst (λ (n : ℕ). IsMean c.args.edges.now n c.in_ok-mean.mean) c.states.ensures.value c.in_ok-mean.ensures in
    small_mean c.args.graph.now c.args.edges.now c.in_ok-mean.mean c.states.ensures.kept c.requires.edges is

pub returns : goal.returns
returns c =
    let is : IsMean c.args.edges.now c.args.graph.now.states c.in_ok-mean.mean = subst (λ (n : ℕ). IsMean c.args.edges.now n c.in_ok-mean.mean) c.states.ensures.value c.in_ok-mean.ensures in
    IfOk-weaker c.in_states.result _ _ (λ r same. mean_of_states c.args.graph.now c.args.edges.now c.in_ok-mean.mean r c.states.ensures.kept c.requires.edges is same) c.in_states.ensures
