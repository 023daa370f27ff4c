use Rattle.std.proofs.Common.{◌≡◌, ◌≤◌, true, ap, sym, ◌∙◌, arith}
use Rattle.dd_formula.specs.{Automata.is_few, Automata.is_short, Automata.counted, lemmas.AutomatonLaws.given_formed}
use Rattle.dd_formula.specs.declared.automaton.Automaton.TheVariants as v
use Rattle.dd_formula.proofs.automaton.Automaton.given.Goals as goal

pub returns-then-has_few-clause-formed : goal.returns-then-has_few-clause-formed
returns-then-has_few-clause-formed c s fit is =
    let n = c.args.nodes in
    let f = counted (v.Given c.args.cases) in
    let some : 1 ≤ s.nodes = omega (arith, is, c.requires.some) in
    let few : is_few n f ≡ true = sym c.has_few.ensures.value ∙ c.if-has_few.true in
    let short : is_short n f ≡ true = c.has_few.ensures.near c.if-has_few.true in
    given_formed s c.args.cases some fit (ap (λ k. is_few k f) is ∙ few) (ap (λ k. is_short k f) is ∙ short)
