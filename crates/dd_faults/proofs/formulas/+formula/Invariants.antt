use Rattle.std.proofs.Common.{◌≡◌, take}
use Rattle.std.specs.List.{flat_map}
use Rattle.dd_faults.specs.{Order.noted, Formulas.formula_faults}
use Rattle.dd_faults.proofs.formulas.+formula.Given as goal

abbrev pub invariant-loop-part : goal.invariant-loop-part
invariant-loop-part l = l.found ≡ noted l.fn.found (flat_map (λ f. formula_faults l.scope.0.now f l.scope.1.now) (take l.part-index l.part-items))
