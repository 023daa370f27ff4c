use Rattle.dd_evidence.proofs.Starred.{starred_fit}
use Rattle.dd_evidence.proofs.laws.starred_fit.Goals as goal

pub returns : goal.returns
returns c = λ x patterns rule few is. starred_fit c.short_list.ensures c.known_symbols.ensures x rule few patterns is
