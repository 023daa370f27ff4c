-- The period along an axis that has no entry is 1.
use Rattle.std.proofs.Common.{◌≡◌, ℕ, ◌≤◌, zero, suc, List, [], ◌∷◌, length, refl, arith}
use Rattle.std.specs.{Prelude.slice_get, Option.option_map_or}
use Rattle.dd_faults.specs.{Tree.Entry, Commands.entry_value}

-- the absolute value of the entry for an axis; 1 if there is none
abbrev pub entry_at : List ℕ → List Entry → ℕ → ℕ
entry_at bytes es axis = option_map_or (entry_value bytes) (slice_get es axis) 1

pub no_entry : (bytes : List ℕ) (es : List Entry) (axis : ℕ) → length es ≤ axis → entry_at bytes es axis ≡ 1
no_entry bytes [] axis h = refl
no_entry bytes (e ∷ es) zero h = absurd (omega arith)
no_entry bytes (e ∷ es) (suc axis) h = no_entry bytes es axis (omega arith)
