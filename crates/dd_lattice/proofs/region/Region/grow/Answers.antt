use Rattle.std.proofs.Common.{◌≡◌, true, false}
use Rattle.dd_lattice.proofs.GrowthLaws.{far_leaves_more}
use Rattle.dd_lattice.proofs.region.Region.grow.Goals as goal

pub returns-then-by : goal.returns-then-by
returns-then-by c =
    far_leaves_more c.args.dim c.args.by c.args.self.now c.requires.least (λ empty. absurd (let no : false ≡ true = rw (c.list.ensures.value, empty) at c.if-is_empty.ensures in cc)) c.if-by.true
