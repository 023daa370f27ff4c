use Rattle.std.proofs.Common.{◌≡◌, ◌<◌, ℕ, false, length, get_or, take}
use Rattle.dd_topology.specs.Sets.{is_listed}
use Rattle.dd_topology.proofs.sets.allow_listed.Given as goal

abbrev pub invariant-loop-answer : goal.invariant-loop-answer
invariant-loop-answer l = (t : ℕ) → t < l.answer-index → get_or l.row t false ≡ false

abbrev pub invariant-loop-symbol : goal.invariant-loop-symbol
invariant-loop-symbol l = (t : ℕ) → t < length l.row → get_or l.row t false ≡ is_listed (take l.symbol-index l.symbols) t
