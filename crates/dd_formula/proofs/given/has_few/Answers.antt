use Rattle.std.proofs.Common.{◌<◌, ◌≤◌, sym, ap, ◌∙◌, arith}
use Rattle.std.proofs.lemmas.Bool.{le-leb, lt-leb}
use Rattle.std.specs.{Prelude.nat_le, List.list_all}
use Rattle.dd_formula.specs.{LocalRule.is_near, Automata.counted, lemmas.AutomatonLaws.instances_given, lemmas.AutomatonLaws.counted_given}
use Rattle.dd_formula.specs.lemmas.CompositionLaws.{passes_more, range_fails}
use Rattle.dd_formula.specs.declared.automaton.Automaton.TheVariants as v
use Rattle.dd_formula.proofs.given.has_few.Goals as goal

pub loop-node-preserved : goal.loop-node-preserved
loop-node-preserved c =
    let f = counted (v.Given c.args.cases.now) in
    let a = c.loop-node.node in
    let is = instances_given c.args.cases.now a in
    let few : f.instances a ≤ 20000 = omega (arith, is, c.instances.ensures.count, c.if-instances-gt-MOST_INSTANCES.false) in
    record {
      few = passes_more (λ b. nat_le (f.instances b) 20000) a c.loop-node.invariant.few (le-leb (f.instances a) 20000 few);
      short = passes_more (λ b. list_all is_near (f.reads b)) a c.loop-node.invariant.short
          (ap (λ g. list_all is_near (g.reads a)) (counted_given c.args.cases.now) ∙ c.instances.ensures.near);
    }

pub returns-then-instances-gt-MOST_INSTANCES-clause-value : goal.returns-then-instances-gt-MOST_INSTANCES-clause-value
returns-then-instances-gt-MOST_INSTANCES-clause-value c =
    let f = counted (v.Given c.args.cases.now) in
    let a = c.loop-node.node in
    let is = instances_given c.args.cases.now a in
    let many : 20000 < f.instances a = omega (arith, is, c.instances.ensures.count, c.if-instances-gt-MOST_INSTANCES.true) in
    sym (range_fails (λ b. nat_le (f.instances b) 20000) c.args.nodes a c.loop-node-test.true (lt-leb (f.instances a) 20000 many))
