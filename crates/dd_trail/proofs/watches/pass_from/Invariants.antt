use Rattle.std.proofs.Common.{◌-◌, List, Option, length}
use Rattle.dd_clause.specs.declared.clause.Literal.{Literal}
use Rattle.dd_trail.specs.Copies.{AreCopied, IsOrdered}
use Rattle.dd_trail.proofs.watches.pass_from.Given as goal

abbrev pub invariant-loop-at : goal.invariant-loop-at
invariant-loop-at l = IsOrdered l.numbers l.literals
    × ((known : List (Option (List Literal))) → AreCopied known (record { numbers = l.numbers; codes = l.fn.literals }) → AreCopied known (record { numbers = l.numbers; codes = l.literals }))

abbrev pub decreases-loop-at : goal.decreases-loop-at
decreases-loop-at l = length l.passed.items - l.at
