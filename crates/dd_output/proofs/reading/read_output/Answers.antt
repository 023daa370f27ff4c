use Rattle.dd_output.proofs.Whole.{refused_at}
use Rattle.dd_output.proofs.reading.read_output.Goals as goal

pub returns-in-Err-Stopped : goal.returns-in-Err-Stopped
returns-in-Err-Stopped c = refused_at c.args.bytes.now c.in-Err-Stopped.left (rw c.in-Err-Stopped.field-0-is at c.in-Err-Stopped.ensures)
