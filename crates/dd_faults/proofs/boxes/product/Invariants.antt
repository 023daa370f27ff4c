use Rattle.std.proofs.Common.{◌≡◌, drop}
use Rattle.std.specs.Prelude.{min}
use Rattle.dd_faults.specs.Commands.{product}
use Rattle.dd_faults.proofs.boxes.product.Given as goal

abbrev pub invariant-loop-place : goal.invariant-loop-place
invariant-loop-place l = l.product ≡ min (product l.text (drop l.place l.entries)) 4294967295
