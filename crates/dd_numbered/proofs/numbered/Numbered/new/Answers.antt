use Rattle.dd_numbered.proofs.SameTruth.{says_same_if}
use Rattle.dd_numbered.proofs.numbered.Numbered.new.Goals as goal

pub returns-clause-truth : goal.returns-clause-truth
returns-clause-truth g c = says_same_if (g.N.Numbers.numbering c.args.numbers.now) c.args.expanded.now c.numbered.result c.numbered.ensures
