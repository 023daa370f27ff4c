use Rattle.std.proofs.{Common.◌≡◌, Common.◌++◌, Common.length, Common.take, Math.ListN.replicate}
use Rattle.dd_clause.specs.declared.clause.Literal.{Literal}
use Rattle.dd_engines.specs.walking.{Truths.times_in, Chains.IsLinked, Chains.HasChain, Chains.numbers_of}
use Rattle.dd_engines.proofs.chains.Chains.add.Given as goal

abbrev pub invariant-loop-literal : goal.invariant-loop-literal
invariant-loop-literal l = record {
  added : (m : Literal) → HasChain l.initial.self m → numbers_of l.self m ≡ replicate (times_in m (take l.literal-index l.literal-items)) l.number ++ numbers_of l.initial.self m;
  linked : IsLinked l.self;
  long : length l.self.firsts.items ≡ length l.initial.self.firsts.items;
}
