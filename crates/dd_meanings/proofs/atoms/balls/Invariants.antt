use Rattle.std.proofs.Common.{◌≡◌, [], take, drop, map}
use Rattle.std.specs.List.{flat_map}
use Rattle.dd_faults.specs.Formulas.{ball_faults}
use Rattle.dd_meanings.specs.Formulas.{ball_of}
use Rattle.dd_meanings.proofs.atoms.balls.Given as goal

abbrev pub invariant-loop-written : goal.invariant-loop-written
invariant-loop-written l = (l.made ≡ map (ball_of l.context l.scope) (take l.written-index l.balls)) × (flat_map (ball_faults l.context l.scope) (drop l.written-index l.balls) ≡ [])
