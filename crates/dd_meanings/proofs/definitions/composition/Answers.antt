use Rattle.dd_meanings.proofs.DefinitionLaws.{are_automata, composition_defined, composition_refused}
use Rattle.dd_meanings.proofs.definitions.composition.Goals as goal

pub composed-requires : goal.composed-requires
composed-requires c =
    rw (c.in_ok-outer.ensures, c.in_ok-inner.ensures) (are_automata c.args.context.now c.args.automata.now c.args.name c.args.outer c.args.inner c.requires.named c.requires.formed c.requires.faultless)

pub returns-in-Ok : goal.returns-in-Ok
returns-in-Ok c =
    let ok = rw (c.in_ok-outer.ensures, c.in_ok-inner.ensures) at c.in-Ok.ensures in
    composition_defined c.args.context.now c.args.automata.now c.args.name c.args.outer c.args.inner c.requires.named c.requires.formed c.requires.faultless c.in-Ok.automaton ok.ok ok.formed

pub returns : goal.returns
returns c =
    let fault = rw (c.in_ok-outer.ensures, c.in_ok-inner.ensures) at c.in-Err.ensures.fault in
    (rw c.refusal_of.ensures (composition_refused c.args.context.now c.args.automata.now c.args.name c.args.outer c.args.inner c.requires.named c.requires.formed c.requires.faultless c.in-Err.fault fault), tt)
