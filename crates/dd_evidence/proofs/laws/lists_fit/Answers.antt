use Rattle.dd_evidence.proofs.Lists.{lists_fit}
use Rattle.dd_evidence.proofs.laws.lists_fit.Goals as goal

pub returns : goal.returns
returns c = λ x patterns rule few is. lists_fit c.short_list.ensures c.known_symbols.ensures x rule few patterns is
