use Rattle.std.proofs.Common.{arith}
use Rattle.dd_formula.specs.lemmas.AutomatonLaws.{shallow}
use Rattle.dd_compile.proofs.automata.compile_value.Goals as goal

pub compile_near-requires-clause-near : goal.compile_near-requires-clause-near
compile_near-requires-clause-near c =
    let deep = shallow c.requires.automaton.setting c.args.automaton.now c.requires.automaton.formed in
    omega (arith, deep, c.requires.near)
