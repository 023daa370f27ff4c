use Rattle.dd_transfer.proofs.Saying.{number_near}
use Rattle.dd_transfer.proofs.placing.NearNumbers.number.Goals as goal

pub returns : goal.returns
returns c = number_near c.args.self.now c.self.inside.strip c.self.inside.at c.args.cell.now c.number_at.result c.self.view_is c.number_at.ensures
