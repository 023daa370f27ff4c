-- The limits that pairs and the questions about them exceed, in the order in which these limits are tested.
use Rattle.std.specs.Prelude.{List, [], ◌∷◌, ◌++◌, Option, Some, None, nat_lt}
use Rattle.std.specs.List.{flat_map}
use Rattle.dd_expansion.specs.Limits.{most_nested}
use Rattle.dd_formula.specs.Automata.{counted}
use Rattle.dd_maps.specs.Pairs.{guarded_depth}
use Rattle.dd_known.specs.declared.known.{Setting.Setting, Known.Known}
use Rattle.dd_faults.specs.{declared.fault.Limit.Limit, declared.fault.Fault.Fault, Order.over}
use Rattle.dd_meanings.specs.Definitions.{count_faults}
use Rattle.dd_question.specs.{Boxes.is_long, declared.excess.Excess.Excess}
use Rattle.dd_pairs.specs.Comparisons.{ComparisonOf, image, change, premise, pair_of, goal_of}

-- the limit on scripts that corresponds to this limit on the work of a question
abbrev pub limit_of : Excess → Limit
limit_of Excess.Clauses = Limit.Clauses
limit_of Excess.Patterns = Limit.Patterns
limit_of Excess.States = Limit.States

-- For an image, the guarded formula says that the second rule is true and that the cell's node allows the cell's symbol. If this formula is too deep,
-- the fault is the limit on depth. Otherwise there is no fault. A comparison of the form `change` never has one here.
abbrev pub guard_faults : Setting → ComparisonOf → List Fault
guard_faults s (image x f y) = over (nat_lt most_nested (guarded_depth s.sets y)) Limit.Depth
guard_faults s (change x f g) = []

-- the fault of `guard_faults`, and then the limits on instances, reach and depth that the pair's left automaton exceeds
abbrev pub pair_faults : Setting → ComparisonOf → List Fault
pair_faults s c = guard_faults s c ++ count_faults s.topology.nodes (counted (pair_of s c).left)

-- the faults of `pair_faults`, and then the limit on clauses, if the question exceeds it
abbrev pub comparison_faults : Known → ComparisonOf → List Fault
comparison_faults k c = pair_faults k.setting c ++ over (is_long k.limits (premise c) (goal_of k.setting c)) Limit.Clauses

-- the faults of all comparisons, in their order
abbrev pub faults_in_order : Known → List ComparisonOf → List Fault
faults_in_order k cs = flat_map (comparison_faults k) cs

-- the first fault of the list, if there is one
abbrev pub earliest : List Fault → Option Fault
earliest [] = None
earliest (f ∷ fs) = Some f
