use Rattle.std.proofs.Common.{◌≡◌, ℕ, ◌+◌, ◌<◌, List, length, arith, sym, ◌∙◌, subst, None}
use Rattle.dd_meancycle.specs.table.Levels.{AreRows, level_weight_at}
use Rattle.dd_meancycle.proofs.Assembly.{tabulated, least_mean_is, no_cycle_is}
use Rattle.dd_meancycle.proofs.table.mean_of.Goals as goal

pub gentlest-requires-clause-tabulated : goal.gentlest-requires-clause-tabulated
gentlest-requires-clause-tabulated c = λ v lt. tabulated c.args.edges.now c.args.states v c.args.levels.now c.requires.rows c.requires.len lt

pub ranks-requires-clause-tabulated : goal.ranks-requires-clause-tabulated
ranks-requires-clause-tabulated c = λ v lt. tabulated c.args.edges.now c.args.states v c.args.levels.now c.requires.rows c.requires.len lt

pub potentials-requires-clause-tabulated : goal.potentials-requires-clause-tabulated
potentials-requires-clause-tabulated c = λ v lt. tabulated c.args.edges.now c.args.states v c.args.levels.now c.requires.rows c.requires.len lt

pub returns-in_default : goal.returns-in_default
returns-in_default c = (
  c.in_ok-ranks.ensures.len,
  no_cycle_is c.args.edges.now c.args.states c.args.levels.now c.in_ok-ranks.ranks.items c.requires.edges c.requires.rows c.requires.len c.in_default.ensures c.in_ok-ranks.ensures.each,
)

pub returns : goal.returns
returns c = least_mean_is c.args.edges.now c.args.states c.args.levels.now c.in-Some.steep c.reduced-mean.result c.in_ok-cycle.cycle.items c.in_ok-potentials.potentials.items
    c.requires.edges c.requires.rows c.requires.len c.in-Some.ensures c.reduced-mean.ensures c.in_ok-cycle.ensures c.in_ok-potentials.ensures.len c.in_ok-potentials.ensures.each
