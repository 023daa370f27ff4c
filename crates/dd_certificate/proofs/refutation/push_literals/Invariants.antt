use Rattle.std.proofs.Common.{◌≡◌, ◌++◌, take}
use Rattle.std.specs.List.{flat_map}
use Rattle.dd_certificate.specs.Text.{spaced_literal}
use Rattle.dd_certificate.proofs.refutation.push_literals.Given as goal

abbrev pub invariant-loop-literal : goal.invariant-loop-literal
invariant-loop-literal l = l.text.items ≡ l.initial.text.items ++ flat_map spaced_literal (take l.literal-index l.literals)
