use Rattle.std.proofs.Common.{◌≡◌, ◌++◌, take}
use Rattle.std.specs.List.{flat_map}
use Rattle.dd_certificate.specs.Text.{signed_after_space}
use Rattle.dd_certificate.proofs.writing.push_signed_to_end.Given as goal

abbrev pub invariant-loop-number : goal.invariant-loop-number
invariant-loop-number l = l.text.items ≡ l.initial.text.items ++ flat_map signed_after_space (take l.number-index l.numbers)
