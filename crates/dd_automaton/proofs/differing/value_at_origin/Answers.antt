use Rattle.dd_automaton.proofs.OriginLaws.{has_look, value_there, never_none}
use Rattle.dd_automaton.proofs.differing.value_at_origin.Goals as goal

pub value-requires : goal.value-requires
value-requires c = has_look c.args.automaton.now c.args.periodic.now c.args.node c.requires.defined c.requires.node

pub unreachable-requires : goal.unreachable-requires
unreachable-requires c =
    never_none _ c.in_ok-symbol.field-0 c.in-None.is
    (value_there c.args.automaton.now c.args.periodic.now c.args.node c.in_ok-symbol.field-0 c.requires.defined c.symbols-symbols.ensures.kept c.reads_are_placed.ensures c.requires.node
    c.in_ok-symbol.ensures)
