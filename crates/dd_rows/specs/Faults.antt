-- What a fault means.
use Rattle.dd_rows.specs.declared.fault.RowsFault.{RowsFault}
use Rattle.dd_rows.specs.declared.fault.RowsFault.TheVariants.{Large, Memory}

-- if the fault is `Large`, this reason for it holds
abbrev pub OnLarge : RowsFault → Type 0 → Type 0
OnLarge Large reason = reason
OnLarge Memory reason = Unit {0}
