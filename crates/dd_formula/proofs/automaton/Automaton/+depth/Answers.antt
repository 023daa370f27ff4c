use Rattle.std.proofs.Common.{◌∙◌, ap, arith}
use Rattle.dd_formula.specs.{Automata.counted, declared.automaton.Automaton.Automaton}
use Rattle.dd_formula.specs.lemmas.AutomatonLaws.{shallow, depth_composed}
use Rattle.dd_formula.proofs.automaton.Automaton.+depth.Goals as goal

pub overflow_add-result : goal.overflow_add-result
overflow_add-result t c =
    let whole = ap (λ (f : Automaton). (counted f).depth) c.in-Composed.is ∙ depth_composed c.in-Composed.outer c.in-Composed.inner in
    let outer = ap (λ (f : Automaton). (counted f).depth) c.get.ensures in
    let inner = ap (λ (f : Automaton). (counted f).depth) c.get-in-Composed.ensures in
    omega (arith, whole, outer, inner, shallow c.requires.0 c.args.self.now c.requires.1, c.max.ensures, c.depth.ensures, c.depth-in-Composed.ensures)
