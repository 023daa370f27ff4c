use Rattle.std.proofs.Common.{◌≡◌, ℕ, ◌<◌, false}
use Rattle.dd_values.specs.Variables.{true_variables}
use Rattle.dd_problem.specs.Clauses.{input}
use Rattle.dd_problem.proofs.witnesses.symbol_read.Given as goal

abbrev pub invariant-loop-symbol : goal.invariant-loop-symbol
invariant-loop-symbol l = (t : ℕ) → t < l.symbol → true_variables l.values (input l.symbols l.number t) ≡ false
