use Rattle.std.proofs.Common.{◌≡◌, ◌≤◌, take}
use Rattle.dd_engines.specs.walking.Truths.{true_count}
use Rattle.dd_engines.proofs.truths.count_true.Given as goal

abbrev pub invariant-loop-literal : goal.invariant-loop-literal
invariant-loop-literal l = record {
  counted : l.count ≡ true_count l.values (take l.literal-index l.literals);
  few : l.count ≤ l.literal-index;
}
