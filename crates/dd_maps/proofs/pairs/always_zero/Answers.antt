use Rattle.dd_formula.specs.Automata.{counted}
use Rattle.dd_maps.specs.Pairs.{always_zero}
use Rattle.dd_maps.proofs.{Faults.err_says, Faults.only_memory, Near.zero_short, Sizes.zero_few}
use Rattle.dd_maps.proofs.pairs.always_zero.Goals as goal

pub returns-clause-fault : goal.returns-clause-fault
returns-clause-fault c =
    let g = c.args.topology.now in
    let s = c.args.sets.now in
    err_says c.by_cases.result _ _ (only_memory g.nodes (counted (always_zero g s)) (zero_few g s g.nodes) (zero_short g s g.nodes)) c.by_cases.ensures.fault
