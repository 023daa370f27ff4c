use Rattle.std.proofs.Common.{◌≡◌, ◌++◌, take}
use Rattle.std.specs.List.{flat_map}
use Rattle.dd_certificate.specs.Text.{starred_text}
use Rattle.dd_certificate.proofs.writing.push_starred_patterns.Given as goal

abbrev pub invariant-loop-pattern : goal.invariant-loop-pattern
invariant-loop-pattern l = l.text.items ≡ l.initial.text.items ++ flat_map starred_text (take l.pattern-index l.patterns)
