use Rattle.std.proofs.Common.{arith}
use Rattle.dd_engines.proofs.Counting.{some_written}
use Rattle.dd_engines.proofs.truths.Truths.raise_one.Goals as goal

pub returns-clause-listed : goal.returns-clause-listed
returns-clause-listed c =
    let t = c.args.self.now in
    some_written t.counts.items t.marks.items t.first_block c.args.number c.saturating_add.result c.requires.within c.requires.listed (omega arith)
