use Rattle.dd_forbidden.proofs.OneList.{known_symbols}
use Rattle.dd_forbidden.proofs.laws.known_symbols.Goals as goal

pub returns : goal.returns
returns c = known_symbols
