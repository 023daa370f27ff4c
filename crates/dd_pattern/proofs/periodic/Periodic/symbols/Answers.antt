use Rattle.std.proofs.Common.{arith}
use Rattle.dd_pattern.specs.lemmas.TileLaws.{read_modulo}
use Rattle.dd_pattern.proofs.periodic.Periodic.symbols.Goals as goal

pub returns-clause-reads : goal.returns-clause-reads
returns-clause-reads c = grind (arith, read_modulo)
