-- Budgets of instances: each instance of an expansion costs 1.
use Rattle.std.specs.Prelude.{◌≡◌, ℕ, ◌+◌, ◌<◌, Result, Ok, Err}
use Rattle.dd_expansion.specs.declared.fault.ExpansionFault.{ExpansionFault, TheVariants.Instances}

-- either the result is `value`, and `cost` was taken from the budget; or the result is a fault. The fault `Instances` says
-- that `cost` exceeds what the budget was before the call
abbrev pub IsPaid : {T : Type 0} → ℕ → ℕ → T → ℕ → Result T ExpansionFault → Type 0
IsPaid before after value cost (Ok made) = (made ≡ value) × (after + cost ≡ before)
IsPaid before after value cost (Err fault) = fault ≡ Instances → before < cost
