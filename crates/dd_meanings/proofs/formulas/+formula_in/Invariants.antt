use Rattle.std.proofs.Common.{◌≡◌, ◌+◌, ◌≤◌, [], take, drop, map, length}
use Rattle.std.specs.List.{flat_map}
use Rattle.dd_written.specs.Formulas.{tree_depth, chain_depth}
use Rattle.dd_faults.specs.Formulas.{formula_faults}
use Rattle.dd_meanings.specs.Formulas.{formula_of}
use Rattle.dd_meanings.proofs.formulas.+formula_in.Given as goal

abbrev pub invariant-loop-part : goal.invariant-loop-part
invariant-loop-part l = record {
  made : l.made ≡ map (λ f. formula_of l.context f l.scope) (take l.part-index l.part-items);
  faultless : flat_map (λ f. formula_faults l.context f l.scope) (drop l.part-index l.part-items) ≡ [];
  shallow : length l.scope + chain_depth l.join (length (map tree_depth l.part-items)) l.part-index (map tree_depth (drop l.part-index l.part-items)) ≤ 64;
}
