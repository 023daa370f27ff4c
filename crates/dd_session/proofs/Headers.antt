-- The header that a run writes is the header of an output.
use Rattle.std.proofs.Common.{◌≡◌, ℕ, List}
use Rattle.dd_output.specs.Outputs.{header as lines_before}
use Rattle.dd_session.specs.Output.{header}

pub header_is : (bytes text : List ℕ) → text ≡ lines_before bytes → text ≡ header bytes
unfolding header
header_is bytes text is = is
