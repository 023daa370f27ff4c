use Rattle.std.proofs.{Common.map, Common.sym, Common.subst, Common.arith, lemmas.Result.err_from_is_err_and}
use Rattle.dd_formula.specs.{ByCases.numbers_over, ByCases.case_over, ByCases.IsCasesRefusal, lemmas.AutomatonLaws.counted_given}
use Rattle.dd_formula.proofs.CaseCounts.{all_fit}
use Rattle.dd_formula.proofs.automaton.Automaton.by_cases.Goals as goal

pub returns-in_err-cases-clause-fault : goal.returns-in_err-cases-clause-fault
returns-in_err-cases-clause-fault c =
    let g = c.args.topology.now in
    let p = err_from_is_err_and c.from_residual-in_err-cases.result c.from_residual-in_err-cases.ensures.1 in
    rw (p.1, p.2) (subst (λ f. IsCasesRefusal g.nodes f c.in_err-cases.field-0.0) (sym (counted_given (record { cases = map (case_over g c.args.sets.now) c.args.cases.now; otherwise = c.args.otherwise }))) c.in_err-cases.ensures.fault)

pub given-requires : goal.given-requires
given-requires c = record {
  setting = numbers_over c.args.topology.now c.args.sets.now;
  fit = rw c.in_ok-cases.ensures.ok (all_fit c.args.topology.now c.args.sets.now c.args.cases.now c.args.otherwise c.requires.cases c.requires.otherwise);
  all = sym c.nodes.ensures.value;
  some = omega (arith, c.nodes.ensures.value, c.nodes.ensures.grid.nodes);
}

pub returns-in-Ok-clause-formed : goal.returns-in-Ok-clause-formed
returns-in-Ok-clause-formed c =
    let s = numbers_over c.args.topology.now c.args.sets.now in
    rw c.in_ok-cases.ensures.ok at
    (c.in-Ok.ensures.formed s (rw c.in_ok-cases.ensures.ok (all_fit c.args.topology.now c.args.sets.now c.args.cases.now c.args.otherwise c.requires.cases c.requires.otherwise)) (sym c.nodes.ensures.value))
