-- The decisions that an output can hold. The conditions are about the steps of a YES; every NO and every unknown decision satisfies them.
use Rattle.dd_certificate.specs.Bounds.{IsWritableRefutation}
use Rattle.dd_contain.specs.declared.{decision.Decision.Decision, equal.Equality.Equality}
use Rattle.dd_contain.specs.declared.decision.Decision.TheVariants as decision
use Rattle.dd_contain.specs.declared.equal.Equality.TheVariants as equality

-- an output can hold the evidence of the decision: the steps of a YES
abbrev pub IsWritableDecision : Decision → Type 0
IsWritableDecision (decision.Yes n steps) = IsWritableRefutation steps
IsWritableDecision (decision.No t) = Unit {0}
IsWritableDecision decision.Unknown = Unit {0}

-- an output can hold the evidence of the decision about equality: the steps of both sides of a YES
abbrev pub IsWritableEquality : Equality → Type 0
IsWritableEquality (equality.Yes left right) = IsWritableRefutation left.steps × IsWritableRefutation right.steps
IsWritableEquality (equality.No h t) = Unit {0}
IsWritableEquality equality.Unknown = Unit {0}
