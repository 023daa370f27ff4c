use Rattle.std.proofs.Common.{sym}
use Rattle.dd_solver.proofs.analysis.mark_clause.Goals as goal

pub mark_literals-requires : goal.mark_literals-requires
mark_literals-requires c = c.requires c.args.number _ (sym c.in-Some.ensures)
