use Rattle.std.proofs.Common.{◌≡◌, take, map}
use Rattle.dd_written.specs.Values.{name_text}
use Rattle.dd_meanings.proofs.names.names_of.Given as goal

abbrev pub invariant-loop-name : goal.invariant-loop-name
invariant-loop-name l = l.names ≡ map (name_text l.text) (take l.name-index l.written)
