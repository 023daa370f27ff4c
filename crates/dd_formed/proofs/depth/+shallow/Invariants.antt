use Rattle.std.proofs.Common.{◌≡◌, true, take}
use Rattle.std.specs.{Prelude.nat_le, List.list_all}
use Rattle.dd_expansion.specs.Limits.{depth}
use Rattle.dd_formed.proofs.depth.+shallow.Given as goal

abbrev pub invariant-are_shallow-loop-part : goal.invariant-are_shallow-loop-part
invariant-are_shallow-loop-part l = list_all (λ f. nat_le (depth f) l.most) (take l.part-index l.parts) ≡ true
