use Rattle.dd_solver.proofs.Rises.{kept_falls}
use Rattle.dd_solver.proofs.search.Search.propagate.Goals as goal

pub returns-clause-left : goal.returns-clause-left
returns-clause-left c =
    let old = c.self.inside.trail in
    rw (c.propagate.ensures.extends.variables, ← c.self.view_is) (kept_falls old.variables old.entries c.propagate.new.trail.entries c.propagate.ensures.extends.kept)
