use Rattle.std.proofs.Common.{◌≡◌, map, take}
use Rattle.dd_query.specs.Vectors.{place_of}
use Rattle.dd_query.proofs.parts.positions.Given as goal

abbrev pub invariant-loop-vector : goal.invariant-loop-vector
invariant-loop-vector l = l.places ≡ map (place_of l.text) (take l.vector-index l.vectors)
