use Rattle.std.proofs.Common.{ap, ◌∙◌}
use Rattle.dd_circuit.specs.Circuits.{size}
use Rattle.dd_compile.specs.{Compiling.are_wired, Compiling.wires_near, lemmas.RuleWiring.leaves_wired}
use Rattle.dd_compile.proofs.RuleSays.{answer_says}
use Rattle.dd_compile.proofs.rules.compile_rule.Goals as goal

pub compile_expanded-requires-clause-wired : goal.compile_expanded-requires-clause-wired
compile_expanded-requires-clause-wired c =
    let n = size c.args.circuit.now in
    let w = c.args.inputs.now in
    let at = c.args.at.now in
    ap (are_wired n (wires_near w at.position)) c.expansion-expansion.ensures.value
    ∙ leaves_wired n w c.args.rule.now c.expansion-expansion.ensures.kept at c.requires.node c.requires.near c.requires.wired

pub returns-clause-says : goal.returns-clause-says
returns-clause-says c =
    let n = size c.args.circuit.now in
    let w = c.args.inputs.now in
    let r = c.args.rule.now in
    let at = c.args.at.now in
    let kept = c.expansion-expansion.ensures.kept in
    let e = c.compile_expanded.ensures in
    answer_says c.args.circuit.now c.compile_expanded.new.circuit w r kept.symbols.0 at
    (leaves_wired n w r kept at c.requires.node c.requires.near c.requires.wired)
    c.expansion-expansion.result.now c.expansion-expansion.ensures.value c.compile_expanded.result e.extends e.gates e.signal
