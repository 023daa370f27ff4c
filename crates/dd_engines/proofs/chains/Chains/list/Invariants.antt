use Rattle.std.proofs.Common.{◌≡◌, ◌*◌, length, drop}
use Rattle.dd_engines.specs.walking.Chains.{IsLinked, AreChained}
use Rattle.dd_engines.proofs.chains.Chains.list.Given as goal

abbrev pub invariant-loop-number : goal.invariant-loop-number
invariant-loop-number l = record {
  chained : AreChained l.self l.number (drop l.number l.cnf.clauses);
  linked : IsLinked l.self;
  long : length l.self.firsts.items ≡ 2 * l.cnf.variables;
}
