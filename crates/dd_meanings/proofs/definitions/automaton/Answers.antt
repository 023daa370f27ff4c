use Rattle.std.proofs.Common.{arith}
use Rattle.dd_meanings.specs.Definitions.{automaton_of}
use Rattle.dd_meanings.proofs.Nothing.{parts}
use Rattle.dd_meanings.proofs.DefinitionLaws.{symbol_below, are_cases, cases_defined, cases_refused}
use Rattle.dd_meanings.proofs.definitions.automaton.Goals as goal

pub by_cases-requires-clause-cases : goal.by_cases-requires-clause-cases
by_cases-requires-clause-cases c =
    rw (c.as_slice-meant.ensures, c.in_ok-meant.ensures) (are_cases c.args.context.now c.args.name c.args.cases.now c.args.default c.requires.sound c.requires.shallow c.requires.faultless)

pub by_cases-requires-clause-otherwise : goal.by_cases-requires-clause-otherwise
by_cases-requires-clause-otherwise c =
    rw c.number_in-otherwise.ensures (symbol_below c.args.context.now c.args.default c.requires.sound (grind (arith, parts)))

pub returns-in-Ok : goal.returns-in-Ok
returns-in-Ok c =
    let ok = rw (c.as_slice-meant.ensures, c.in_ok-meant.ensures, c.number_in-otherwise.ensures) at c.in-Ok.ensures in
    cases_defined c.args.context.now c.args.name c.args.cases.now c.args.default c.requires.sound c.requires.shallow c.requires.faultless c.in-Ok.automaton ok.ok ok.formed

pub returns : goal.returns
returns c =
    let fault = rw (c.as_slice-meant.ensures, c.in_ok-meant.ensures, c.number_in-otherwise.ensures) at c.in-Err.ensures.fault in
    (rw c.refusal_of.ensures (cases_refused c.args.context.now (automaton_of c.args.context.now c.args.cases.now c.args.default) c.in-Err.fault fault), tt)
