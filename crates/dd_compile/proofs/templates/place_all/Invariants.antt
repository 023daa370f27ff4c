use Rattle.std.proofs.Common.{◌≡◌, map, take}
use Rattle.dd_compile.specs.placing.Placed.{placed}
use Rattle.dd_compile.proofs.templates.place_all.Given as goal

abbrev pub invariant-loop-signal : goal.invariant-loop-signal
invariant-loop-signal l = l.placed_signals.items ≡ map (placed l.inputs l.before) (take l.signal-index l.signals)
