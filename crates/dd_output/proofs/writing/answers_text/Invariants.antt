use Rattle.std.proofs.Common.{◌≡◌, take}
use Rattle.dd_output.specs.Outputs.{answers_text}
use Rattle.dd_output.proofs.writing.answers_text.Given as goal

abbrev pub invariant-loop-done : goal.invariant-loop-done
invariant-loop-done l = l.text.items ≡ answers_text 1 (take l.done l.answers)
