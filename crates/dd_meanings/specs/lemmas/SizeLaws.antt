-- A well-formed automaton exceeds no limit.
use Rattle.std.proofs.{Common.arith, Common.[], Common.◌≡◌, lemmas.Grind.common_steps}
use Rattle.dd_meanings.specs.Definitions.{count_faults}
use Rattle.dd_formula.specs.{declared.automaton.Automaton.Automaton, Automata.IsAutomaton, Automata.counted, Automata.CommonNumbers}
use Rattle.dd_formula.specs.lemmas.AutomatonLaws.{within_is}

pub formed_passes : (s : CommonNumbers) (f : Automaton) → IsAutomaton s f → count_faults s.nodes (counted f) ≡ []
formed_passes s f h = let passes = within_is s.nodes f h.within in grind (arith, common_steps)
