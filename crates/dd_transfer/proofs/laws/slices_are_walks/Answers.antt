use Rattle.dd_transfer.proofs.{Numbers.are_digits, Following.are_edges}
use Rattle.dd_transfer.proofs.laws.slices_are_walks.Goals as goal

pub returns : goal.returns
returns c = record { digits = are_digits; edges = are_edges }
