use Rattle.std.proofs.Common.{◌≡◌, take, string_bytes}
use Rattle.std.specs.List.{flat_map}
use Rattle.dd_faults.specs.Repeats.{entry_key}
use Rattle.dd_faults.proofs.twice.VectorKeyed.key.Given as goal

abbrev pub invariant-loop-entry : goal.invariant-loop-entry
invariant-loop-entry l = string_bytes l.key ≡ flat_map (entry_key l.text) (take l.entry-index l.self.entries)
