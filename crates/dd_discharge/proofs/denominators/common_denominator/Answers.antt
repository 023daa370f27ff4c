use Rattle.std.proofs.Common.{sym, ◌∙◌}
use Rattle.dd_discharge.proofs.Printing.{common_past, common_some}
use Rattle.dd_discharge.proofs.denominators.common_denominator.Goals as goal

pub returns-in_err-common : goal.returns-in_err-common
returns-in_err-common c = c.from_residual.ensures ∙ common_past c.args.columns.now c.args.duals.now (sym c.in_err-common.was ∙ c.joined_all.ensures)

pub joined_all-requires-2-clause-above : goal.joined_all-requires-2-clause-above
joined_all-requires-2-clause-above c = common_some c.args.columns.now c.in_ok-common.common (sym c.in_ok-common.was ∙ c.joined_all.ensures)
