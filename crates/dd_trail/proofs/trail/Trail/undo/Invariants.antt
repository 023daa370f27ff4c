use Rattle.std.proofs.Common.{◌≡◌, take, vec_len}
use Rattle.dd_trail.specs.keeping.Values.{IsDenied}
use Rattle.dd_trail.proofs.trail.Trail.undo.Given as goal

abbrev pub invariant-loop-self : goal.invariant-loop-self
invariant-loop-self l = record {
  denied : IsDenied l.self-inside.variables l.self-inside.entries.items l.self-inside.denied.items;
  variables : l.self-inside.variables ≡ l.initial.self-inside.variables;
  kept : take l.place l.self-inside.entries.items ≡ take l.place l.initial.self-inside.entries.items;
}

abbrev pub decreases-loop-self : goal.decreases-loop-self
decreases-loop-self l = vec_len l.self-inside.entries
