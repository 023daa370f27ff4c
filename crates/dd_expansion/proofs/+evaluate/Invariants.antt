use Rattle.std.proofs.Common.{◌≡◌, true, take}
use Rattle.std.specs.List.{list_all, list_any}
use Rattle.dd_expansion.specs.Leaves.{holds, given, seen}
use Rattle.dd_expansion.proofs.+evaluate.Given as goal

abbrev pub invariant-evaluation::evaluate_and-loop-part : goal.invariant-evaluation::evaluate_and-loop-part
invariant-evaluation::evaluate_and-loop-part g l =
    let look = seen (g.R.Reads.symbols l.read) l.at in
    (list_all (λ e. given e look) (take l.part-index l.parts) ≡ true) × (l.value ≡ list_all (λ e. holds e look) (take l.part-index l.parts))

abbrev pub invariant-evaluation::evaluate_or-loop-part : goal.invariant-evaluation::evaluate_or-loop-part
invariant-evaluation::evaluate_or-loop-part g l =
    let look = seen (g.R.Reads.symbols l.read) l.at in
    (list_all (λ e. given e look) (take l.part-index l.parts) ≡ true) × (l.value ≡ list_any (λ e. holds e look) (take l.part-index l.parts))
