use Rattle.std.proofs.Common.{◌*◌}
use Rattle.dd_pattern.specs.Periods.{periods_volume}
use Rattle.dd_boxes.specs.Goals.{always}
use Rattle.dd_problem.specs.Problems.{torus_problem}
use Rattle.dd_counter.specs.lemmas.CountedClauses.{weighed_clauses}
use Rattle.dd_counter.specs.lemmas.Light.{least_claimed, none_claimed, least_unique, none_not_least}
use Rattle.dd_counter.specs.lemmas.{Rooms.cells_some, UnitLaws.unit_there}
use Rattle.dd_counter.proofs.laws.least_law.Goals as goal

pub returns : goal.returns
returns c p ws ok same =
    let x = c.args.rule.now in
    let rule = c.nodes-nodes.ensures.kept in
    let base = torus_problem x always p in
    let cells = periods_volume p * x.nodes in record {
      none = none_claimed x p ws rule ok same;
      least = least_claimed x p ws rule ok same;
      unique = least_unique x p ws;
      not_both = none_not_least x p ws;
      last = λ below some. unit_there ws below cells base.variables (cells_some x p rule ok) some;
      few = λ below. weighed_clauses base ws below cells;
    }
