use Rattle.std.proofs.Common.{◌≡◌, ◌++◌, ◌∷◌, [], length}
use Rattle.dd_meanings.specs.Formulas.{implied_of}
use Rattle.dd_meanings.proofs.formulas.implied.Given as goal

abbrev pub invariant-loop-premise : goal.invariant-loop-premise
invariant-loop-premise l = implied_of (l.front ++ l.whole ∷ []) ≡ implied_of l.fn.parts

abbrev pub decreases-loop-premise : goal.decreases-loop-premise
decreases-loop-premise l = length l.front
