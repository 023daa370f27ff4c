use Rattle.std.proofs.Common.{◌≡◌, ◌+◌, ◌*◌, ◌++◌, ◌∷◌, [], suc, map, ap, ◌∙◌, arith}
use Rattle.dd_circuit.specs.Circuits.{signal_of}
use Rattle.dd_problem.specs.{Clauses.input, lemmas.RangesLeft.range_to, lemmas.RangesLeft.left_step}
use Rattle.dd_problem.proofs.layouts.symbol_signals.Goals as goal

pub loop-symbol-preserved : goal.loop-symbol-preserved
loop-symbol-preserved c =
    let m = c.args.symbols in
    let k = c.args.number in
    let next : k * m + c.loop-symbol.symbol + 1 ≡ suc (k * m + c.loop-symbol.symbol) = omega arith in
    left_step (λ s. signal_of (input m k s)) (map (λ s. signal_of (input m k s)) (range_to 0 m)) c.loop-symbol.signals.items c.push.new.self.items c.loop-symbol.symbol m
    c.loop-symbol-test.true c.loop-symbol.invariant (c.in_ok-push.ensures.items ∙ ap (λ v. c.loop-symbol.signals.items ++ signal_of v ∷ []) next)
