use Rattle.std.proofs.Common.{◌≡◌, ◌++◌, drop, map, take}
use Rattle.dd_solver.specs.searching.Marking.{renamed}
use Rattle.dd_solver.proofs.trimming.renumber.Given as goal

abbrev pub invariant-loop-hint : goal.invariant-loop-hint
invariant-loop-hint l = l.hints ≡ map (renamed l.clauses l.numbers) (take l.hint-index l.fn.hints) ++ drop l.hint-index l.fn.hints
