use Rattle.std.specs.Prelude.{◌≡◌, All, map, take}
use Rattle.dd_trail.specs.keeping.Copying.{encode, HasCode}
use Rattle.dd_trail.proofs.copies.encoded.Given as goal

abbrev pub invariant-loop-literal : goal.invariant-loop-literal
invariant-loop-literal l = (l.codes.items ≡ map encode (take l.literal-index l.literals)) × All HasCode (take l.literal-index l.literals)
