use Rattle.dd_checker.proofs.Certifying.{AreTruthful}
use Rattle.dd_checker.proofs.laws.certified.Given as goal

-- the claims of the certificates for the queries seen so far are true
abbrev pub invariant-loop-at : goal.invariant-loop-at
invariant-loop-at l = AreTruthful l.script l.at
