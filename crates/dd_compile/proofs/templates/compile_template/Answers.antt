use Rattle.std.proofs.Common.{sym, subst, arith}
use Rattle.std.specs.List.Sorted.{IsStrictlySortedBy}
use Rattle.dd_lattice.specs.Order.{cell_cmp}
use Rattle.dd_topology.specs.lemmas.OrderLaws.{sorted-in_order}
use Rattle.dd_formula.specs.LocalRule.{reads_at}
use Rattle.dd_compile.proofs.TemplateLaws.{few_cells, few_own, few_made, own_ready, own_template}
use Rattle.dd_compile.proofs.templates.compile_template.Goals as goal

pub own_inputs-requires-clause-ascending : goal.own_inputs-requires-clause-ascending
own_inputs-requires-clause-ascending c = subst (IsStrictlySortedBy cell_cmp) (sym c.reads-reads.ensures.value) (sorted-in_order (reads_at c.args.rule.now c.args.node))

pub own_inputs-requires-clause-few : goal.own_inputs-requires-clause-few
own_inputs-requires-clause-few c =
    let few = few_own c.args.rule.now c.reads-reads.ensures.kept c.args.node c.requires c.reads-reads.result.now c.symbols-symbols.result c.reads-reads.ensures.value c.symbols-symbols.ensures.value in
    omega (arith, few)

pub overflow_cast-reads : goal.overflow_cast-reads
overflow_cast-reads c =
    let few = few_cells c.args.rule.now c.reads-reads.ensures.kept c.args.node c.requires c.reads-reads.result.now c.symbols-symbols.result c.reads-reads.ensures.value c.symbols-symbols.ensures.value in
    omega (arith, few)

pub overflow_mul-reads : goal.overflow_mul-reads
overflow_mul-reads c =
    let few = few_own c.args.rule.now c.reads-reads.ensures.kept c.args.node c.requires c.reads-reads.result.now c.symbols-symbols.result c.reads-reads.ensures.value c.symbols-symbols.ensures.value in
    omega (arith, few)

pub new-circuit-requires : goal.new-circuit-requires
new-circuit-requires c =
    let few = few_own c.args.rule.now c.reads-reads.ensures.kept c.args.node c.requires c.reads-reads.result.now c.symbols-symbols.result c.reads-reads.ensures.value c.symbols-symbols.ensures.value in
    omega (arith, few)

pub compile_rule-requires-clause-wired : goal.compile_rule-requires-clause-wired
compile_rule-requires-clause-wired c =
    own_ready c.args.rule.now c.reads-reads.ensures.kept c.args.node c.requires c.reads-reads.result.now c.symbols-symbols.result c.reads-reads.ensures.value c.symbols-symbols.ensures.value
    c.in_ok-inputs.inputs c.in_ok-inputs.ensures c.new-circuit.result c.new-circuit.ensures.inputs c.new-circuit.ensures.gates

pub compile_rule-requires-clause-few : goal.compile_rule-requires-clause-few
compile_rule-requires-clause-few c =
    few_made c.args.rule.now c.reads-reads.ensures.kept c.args.node c.requires c.reads-reads.result.now c.symbols-symbols.result c.reads-reads.ensures.value c.symbols-symbols.ensures.value
    c.in_ok-inputs.inputs c.in_ok-inputs.ensures c.new-circuit.result c.new-circuit.ensures.inputs c.new-circuit.ensures.gates

pub invariant_of-result : goal.invariant_of-result
invariant_of-result c =
    let e = c.in_ok-signal.ensures in
    own_template c.args.rule.now c.reads-reads.ensures.kept c.args.node c.requires c.reads-reads.result.now c.symbols-symbols.result c.reads-reads.ensures.value c.symbols-symbols.ensures.value
    c.in_ok-inputs.inputs c.in_ok-inputs.ensures c.new-circuit.result c.new-circuit.ensures.inputs c.new-circuit.ensures.gates c.compile_rule.new.circuit c.in_ok-signal.signal
    e.extends.inputs e.gates e.signal
