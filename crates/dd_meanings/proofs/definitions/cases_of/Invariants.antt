use Rattle.std.proofs.Common.{◌≡◌, [], map, take, drop}
use Rattle.std.specs.List.{flat_map}
use Rattle.dd_faults.specs.Commands.{case_faults}
use Rattle.dd_meanings.specs.Definitions.{case_of}
use Rattle.dd_meanings.proofs.definitions.cases_of.Given as goal

abbrev pub invariant-loop-case : goal.invariant-loop-case
invariant-loop-case l = (l.made ≡ map (case_of l.context) (take l.case-index l.cases)) × (flat_map (case_faults l.context) (drop l.case-index l.cases) ≡ [])
