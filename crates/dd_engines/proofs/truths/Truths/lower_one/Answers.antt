use Rattle.std.proofs.Common.{arith}
use Rattle.dd_engines.proofs.Counting.{some_written, written_marked}
use Rattle.dd_engines.proofs.truths.Truths.lower_one.Goals as goal

pub returns-then-count-eq0-clause-listed : goal.returns-then-count-eq0-clause-listed
returns-then-count-eq0-clause-listed c =
    let t = c.args.self.now in
    rw c.min-self.ensures
    (written_marked t.counts.items t.marks.items t.first_block c.args.number c.saturating_sub-count.result c.requires.within c.requires.listed)

pub returns-else-count-eq0-clause-listed : goal.returns-else-count-eq0-clause-listed
returns-else-count-eq0-clause-listed c =
    let t = c.args.self.now in
    some_written t.counts.items t.marks.items t.first_block c.args.number c.saturating_sub-count.result c.requires.within c.requires.listed
    (omega (arith, c.if-count-eq0.false))
