use Rattle.std.proofs.Common.{◌≡◌, ◌++◌, map}
use Rattle.dd_circuit.specs.Circuits.{signal_of}
use Rattle.dd_problem.specs.{Clauses.input, lemmas.RangesLeft.range_to}
use Rattle.dd_problem.proofs.layouts.symbol_signals.Given as goal

abbrev pub invariant-loop-symbol : goal.invariant-loop-symbol
invariant-loop-symbol l =
    map (λ s. signal_of (input l.symbols l.number s)) (range_to 0 l.symbols) ≡ l.signals.items ++ map (λ s. signal_of (input l.symbols l.number s)) (range_to l.symbol l.symbols)
