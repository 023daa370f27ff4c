use Rattle.std.proofs.Common.{◌+◌, ◌*◌, ℕ, Bool, ap, sym, ◌∙◌}
use Rattle.dd_minimal.specs.finding.Walks.{none_holds}
use Rattle.dd_minimal.proofs.walking.+none_holds.Goals as goal
use Rattle.dd_formula.specs.lemmas.CompositionLaws.{passes_more, range_fails}

pub returns-then-not-none_holds : goal.returns-then-not-none_holds
returns-then-not-none_holds t c =
    let m = c.args.symbols in
    let test : ℕ → Bool = λ s. none_holds m c.in-Some.later.now c.args.table.now (c.args.from + s * c.in-Some.stride.now) in
    sym (ap (λ ds. none_holds m ds c.args.table.now c.args.from) c.in-Some.ensures.cases.0
    ∙ range_fails test m c.loop-symbol.symbol c.loop-symbol-test.true (sym c.none_holds.ensures ∙ c.if-not-none_holds.true))

pub loop-symbol-preserved : goal.loop-symbol-preserved
loop-symbol-preserved t c =
    let test : ℕ → Bool = λ s. none_holds c.args.symbols c.in-Some.later.now c.args.table.now (c.args.from + s * c.in-Some.stride.now) in
    passes_more test c.loop-symbol.symbol c.loop-symbol.invariant (sym c.none_holds.ensures ∙ c.if-not-none_holds.false)
