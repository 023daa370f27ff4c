use Rattle.std.proofs.Common.{◌≡◌, map, take}
use Rattle.dd_elimination.specs.Renaming.{new_name, renamed}
use Rattle.dd_elimination.proofs.whole.originals.Given as goal

abbrev pub invariant-loop-literal : goal.invariant-loop-literal
invariant-loop-literal l = l.originals.items ≡ map (renamed (new_name l.names)) (take l.literal-index l.literals)
