-- The reason for an `Overflow`, and which fault of a discharge comes from each fault of its program and of its run.
use Rattle.dd_rows.specs.declared.fault.RowsFault.{RowsFault}
use Rattle.dd_rows.specs.declared.fault.RowsFault.TheVariants as rows
use Rattle.dd_discharge.specs.declared.fault.DischargeFault.{DischargeFault}
use Rattle.dd_discharge.specs.declared.fault.DischargeFault.TheVariants as fault
use Rattle.dd_simplex.specs.declared.fault.SimplexFault.{SimplexFault}
use Rattle.dd_simplex.specs.declared.fault.SimplexFault.TheVariants as simplex

-- the fault is `Overflow`, and this reason for it holds; or memory ran out
abbrev pub OnOverflow : DischargeFault → Type 0 → Type 0
OnOverflow fault.Large reason = ⊥
OnOverflow fault.Overflow reason = reason
OnOverflow fault.Pivots reason = ⊥
OnOverflow fault.Memory reason = Unit {0}

-- the fault of the discharge for each fault of its simplex run
abbrev pub fault_of_run : SimplexFault → DischargeFault
fault_of_run simplex.Overflow = fault.Overflow
fault_of_run simplex.Pivots = fault.Pivots
fault_of_run simplex.Memory = fault.Memory

-- the fault of the discharge for each fault of its program
abbrev pub fault_of_rows : RowsFault → DischargeFault
fault_of_rows rows.Large = fault.Large
fault_of_rows rows.Memory = fault.Memory
