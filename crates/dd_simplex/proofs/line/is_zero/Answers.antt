use Rattle.std.proofs.Common.{sym, ◌∙◌, rules}
use Rattle.std.specs.Int.{w128}
use mir.Val.{SFits}
use Rattle.dd_simplex.proofs.Idle.{zero_from}
use Rattle.dd_simplex.proofs.line.is_zero.Goals as goal

pub returns : goal.returns
returns c = λ h.
    let fits : SFits w128 c.num.result = search rules in
    sym c.num.ensures.value ∙ zero_from c.num.result fits h
