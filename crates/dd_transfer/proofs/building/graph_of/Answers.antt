use Rattle.std.proofs.Common.{◌≡◌, ◌<◌, ℕ, arith, sym, subst}
use Rattle.dd_transfer.specs.{Graphs.Transfer, Transfers.IsGraphOf}
use Rattle.dd_transfer.proofs.Sizes.{graph_is, some_states}
use Rattle.dd_transfer.proofs.building.graph_of.Goals as goal

pub nonzero_div-slices : goal.nonzero_div-slices
nonzero_div-slices c = let some = some_states c.args.rule.now c.args.strip c.args.state_count c.requires.kept c.requires.states in omega (arith, some)

pub new-requires : goal.new-requires
new-requires c = (graph_is c.args.rule.now c.args.strip c.args.weights.now c.args.state_count c.args.count c.in_ok-windows.windows.items c.in_ok-weights.weights.items c.requires.kept c.requires.strip c.requires.weights
    c.requires.states c.requires.count c.requires.few c.requires.small c.in_ok-windows.ensures c.in_ok-weights.ensures.each c.in_ok-weights.ensures.weighs).kept

pub returns : goal.returns
returns c = subst (IsGraphOf c.args.rule.now c.args.strip c.args.weights.now) (sym c.new.ensures)
    (graph_is c.args.rule.now c.args.strip c.args.weights.now c.args.state_count c.args.count c.in_ok-windows.windows.items c.in_ok-weights.weights.items c.requires.kept c.requires.strip c.requires.weights
    c.requires.states c.requires.count c.requires.few c.requires.small c.in_ok-windows.ensures c.in_ok-weights.ensures.each c.in_ok-weights.ensures.weighs)
