use Rattle.std.proofs.Common.{ap, sym, ◌∙◌, length}
use Rattle.std.specs.List.Sorted.{IsStrictlySortedBy}
use Rattle.dd_compile.proofs.inputs.Inputs.new.Goals as goal

pub invariant_of-result : goal.invariant_of-result
unfolding IsStrictlySortedBy
invariant_of-result c = record {
  ascending = rw c.new.ensures.items tt;
  as_many = ap length c.new-2.ensures.items ∙ sym (ap length c.new.ensures.items);
}
