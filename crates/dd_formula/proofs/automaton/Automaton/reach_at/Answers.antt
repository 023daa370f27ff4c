use Rattle.std.proofs.Common.{◌∙◌, arith}
use Rattle.dd_formula.specs.{Automata.cells_of, declared.automaton.Automaton.Automaton}
use Rattle.dd_formula.specs.lemmas.FarthestLaws.{radius_more, automaton_near}
use Rattle.dd_formula.proofs.automaton.Automaton.reach_at.Goals as goal

pub loop-node-preserved : goal.loop-node-preserved
loop-node-preserved c =
    let automaton : Automaton = c.args.self.now in
    let n = c.loop-node.node in
    let more =
    radius_more (cells_of automaton) n c.loop-node.radius c.farthest.result c.max-radius.result c.deref.result.now
    (c.deref.ensures.value ∙ c.in_ok-reads.ensures.list) c.farthest.ensures c.max-radius.ensures
    (automaton_near c.requires.setting automaton n c.requires.formed (omega arith)) (c.loop-node.invariant.value, c.loop-node.invariant.near) in
    record { value = more.0; near = more.1 }
