use Rattle.std.proofs.Common.{◌≡◌, take}
use Rattle.std.specs.List.{flat_map}
use Rattle.dd_faults.specs.{Order.noted, Commands.case_faults}
use Rattle.dd_faults.proofs.formulas.cases.Given as goal

abbrev pub invariant-loop-case : goal.invariant-loop-case
invariant-loop-case l = l.found ≡ noted l.fn.found (flat_map (case_faults l.context) (take l.case-index l.cases))
