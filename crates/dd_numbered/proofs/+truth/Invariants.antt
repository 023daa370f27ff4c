use Rattle.std.proofs.Common.{◌≡◌, true, false, take}
use Rattle.std.specs.List.{list_all, list_any}
use Rattle.dd_numbered.specs.Numbered.{holds_in}
use Rattle.dd_numbered.proofs.+truth.Given as goal

abbrev pub invariant-truth::all_true-loop-part : goal.invariant-truth::all_true-loop-part
invariant-truth::all_true-loop-part l = list_all (λ e. holds_in e l.symbols) (take l.part-index l.parts) ≡ true

abbrev pub invariant-truth::some_true-loop-part : goal.invariant-truth::some_true-loop-part
invariant-truth::some_true-loop-part l = list_any (λ e. holds_in e l.symbols) (take l.part-index l.parts) ≡ false
