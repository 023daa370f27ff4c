use Rattle.std.proofs.Common.{◌≡◌, ◌+◌, ◌*◌, ap, sym, ◌∙◌, arith}
use Rattle.dd_values.specs.Variables.{true_variables}
use Rattle.dd_problem.proofs.SymbolsRead.{input_value, here_read, none_read}
use Rattle.dd_problem.proofs.witnesses.symbol_read.Goals as goal

pub returns-then-is_true : goal.returns-then-is_true
returns-then-is_true c =
    let m = c.args.symbols in
    let k = c.args.number in
    let t = c.loop-symbol.symbol in
    let at : c.from.result * c.from-in-loop-symbol.result + c.from-in-loop-symbol-2.result ≡ k * m + t =
    ap (λ a. a * c.from-in-loop-symbol.result + c.from-in-loop-symbol-2.result) c.from.ensures
    ∙ (ap (λ a. k * a + c.from-in-loop-symbol-2.result) c.from-in-loop-symbol.ensures ∙ ap (λ a. k * m + a) c.from-in-loop-symbol-2.ensures) in
    here_read (true_variables c.args.values.now) m k t c.requires c.loop-symbol-test.true
    (input_value c.args.values.now m k t (c.from.result * c.from-in-loop-symbol.result + c.from-in-loop-symbol-2.result) at ∙ (sym c.is_true.ensures ∙ c.if-is_true.true))

pub returns : goal.returns
returns c =
    absurd (none_read (true_variables c.args.values.now) c.args.symbols c.args.number c.requires (λ t below. c.loop-symbol.invariant t (omega arith)))
