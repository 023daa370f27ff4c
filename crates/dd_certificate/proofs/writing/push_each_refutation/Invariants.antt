use Rattle.std.proofs.Common.{◌≡◌, ◌++◌, take}
use Rattle.std.specs.List.{flat_map}
use Rattle.dd_certificate.specs.Text.{refutation_text}
use Rattle.dd_certificate.proofs.writing.push_each_refutation.Given as goal

abbrev pub invariant-loop-steps : goal.invariant-loop-steps
invariant-loop-steps l = l.text.items ≡ l.initial.text.items ++ flat_map refutation_text (take l.steps-index l.lists)
