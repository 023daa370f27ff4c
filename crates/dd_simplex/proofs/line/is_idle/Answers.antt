use Rattle.std.proofs.Common.{sym, ◌∙◌, rules}
use Rattle.std.specs.Int.{w128}
use mir.Val.{SFits}
use Rattle.dd_simplex.proofs.Idle.{zero_from, idle_left, idle_right}
use Rattle.dd_simplex.proofs.line.is_idle.Goals as goal

pub returns-then-num-eq0 : goal.returns-then-num-eq0
returns-then-num-eq0 c = λ h.
    let fits : SFits w128 c.num-num-2.result = search rules in
    idle_left c.args.cell.now c.args.factor.now c.args.other.now c.num-num.ensures.fraction c.num-num-2.ensures.fraction c.num-other_num.ensures.fraction
    (sym c.num-num-2.ensures.value ∙ zero_from c.num-num-2.result fits h)

pub returns-else-num-eq0 : goal.returns-else-num-eq0
returns-else-num-eq0 c = λ h.
    let fits : SFits w128 c.num-other_num.result = search rules in
    idle_right c.args.cell.now c.args.factor.now c.args.other.now c.num-num.ensures.fraction c.num-num-2.ensures.fraction c.num-other_num.ensures.fraction
    (sym c.num-other_num.ensures.value ∙ zero_from c.num-other_num.result fits h)
