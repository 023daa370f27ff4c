use Rattle.std.proofs.Common.{ap}
use Rattle.dd_lattice.specs.lemmas.BoxLaws.{index_below}
use Rattle.dd_lattice.proofs.bounds.Box3.number.Goals as goal

pub returns-clause-below : goal.returns-clause-below
returns-clause-below c =
    let there = c.steps_between-there.ensures in
    let all = c.steps_between-all.ensures in
    rw (
      there.x,
      there.y,
      there.z,
      all.x,
      all.y,
      ap (λ v. v.low.x) c.self.view_is,
      ap (λ v. v.low.y) c.self.view_is,
      ap (λ v. v.low.z) c.self.view_is,
      ap (λ v. v.high.x) c.self.view_is,
      ap (λ v. v.high.y) c.self.view_is,
    ) (index_below c.args.self.now c.args.p.now c.requires)
