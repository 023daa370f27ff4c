use Rattle.std.proofs.Common.{get_or, arith}
use Rattle.std.proofs.lemmas.List.Edits.{map_over_more}
use Rattle.dd_trail.specs.lemmas.Trails.{get_any}
use Rattle.dd_solver.specs.searching.Marking.{renamed}
use Rattle.dd_solver.proofs.trimming.renumber.Goals as goal

pub loop-hint-preserved : goal.loop-hint-preserved
loop-hint-preserved c =
    let rename = renamed c.args.clauses c.args.numbers.now in
    let hints = c.loop-hint.hints in
    let i = c.loop-hint.hint-index in
    rw c.new_number.ensures (map_over_more rename c.args.hints.now hints i (get_or hints i 0) (omega arith) c.loop-hint.invariant (get_any hints i 0 _ (omega arith)))
