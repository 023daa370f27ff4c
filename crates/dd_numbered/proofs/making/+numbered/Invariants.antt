use Rattle.std.proofs.Common.{◌≡◌, take, map}
use Rattle.dd_numbered.specs.Numbered.{numbered}
use Rattle.dd_numbered.proofs.making.+numbered.Given as goal

abbrev pub invariant-all_numbered-loop-part : goal.invariant-all_numbered-loop-part
invariant-all_numbered-loop-part g l = l.made ≡ map (numbered (g.N.Numbers.numbering l.numbers)) (take l.part-index l.parts)
