use Rattle.std.proofs.Common.{◌+◌, ◌*◌, ℕ, Bool, List, ap, sym, ◌∙◌}
use Rattle.dd_minimal.specs.finding.Walks.{marked}
use Rattle.dd_minimal.proofs.Ranges.{fold_more}
use Rattle.dd_minimal.proofs.walking.+mark.Goals as goal

pub loop-symbol-preserved : goal.loop-symbol-preserved
loop-symbol-preserved t c =
    let step : List Bool → ℕ → List Bool = λ now s. marked c.args.symbols c.in-Some.later.now now (c.args.from + s * c.in-Some.stride.now) in
    c.mark.ensures ∙ (ap (λ now. step now c.loop-symbol.symbol) c.loop-symbol.invariant
    ∙ sym (fold_more step c.args.marks.now c.loop-symbol.symbol))
