use Rattle.std.proofs.Common.{◌≡◌, ◌∷◌, map}
use Rattle.std.specs.List.{filter, range_with_len}
use Rattle.dd_topology.specs.Sets.{allows}
use Rattle.dd_expansion.specs.declared.formulas.Formula.TheVariants.{Not, Node}
use Rattle.dd_maps.specs.Guarded.{here, symbol_is}
use Rattle.dd_maps.proofs.guarded.guard.Given as goal

abbrev pub invariant-loop-symbol : goal.invariant-loop-symbol
invariant-loop-symbol l = l.parts ≡ Not (Node here l.node) ∷ map symbol_is (filter (allows l.sets l.node) (range_with_len 0 l.symbol))
