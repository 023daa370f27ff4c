use Rattle.std.proofs.Common.{take}
use Rattle.dd_lattice.specs.Regions.{IsRegionOf}
use Rattle.dd_rows.specs.Domains.{IsInDomain}
use Rattle.dd_rows.proofs.domain.domain.Given as goal

abbrev pub invariant-loop-vector : goal.invariant-loop-vector
invariant-loop-vector l = IsRegionOf (IsInDomain l.dim l.radius (take l.vector-index l.vectors)) l.all
