use Rattle.std.proofs.Common.{◌≡◌, ap, ◌∙◌, arith}
use Rattle.dd_formula.specs.{declared.automaton.Automaton.Automaton, Counts.cut, Reach.automaton_reach, ValueCounts.differ_clauses}
use Rattle.dd_boxes.specs.Counts.{most_clauses}
use Rattle.dd_question.proofs.measures.differing.Goals as goal

pub returns : goal.returns
returns c =
    let rule = c.args.premise.now in
    let f : Automaton = c.args.left.now in
    let g : Automaton = c.args.right.now in
    let nodes = c.nodes-nodes.ensures.value in
    let left : c.in_ok-left_radius.left_radius ≡ automaton_reach rule.nodes f = c.in_ok-left_radius.ensures.value ∙ ap (λ n. automaton_reach n f) nodes in
    let right : c.in_ok-right_radius.right_radius ≡ automaton_reach rule.nodes g = c.in_ok-right_radius.ensures.value ∙ ap (λ n. automaton_reach n g) nodes in
    record {
      radius = omega (arith, c.max.ensures, left, right);
      near = omega (arith, c.max.ensures, c.in_ok-left_radius.ensures.near, c.in_ok-right_radius.ensures.near);
      clauses =
          c.in_ok-clauses.ensures
          ∙ (ap (λ n. cut most_clauses (differ_clauses n c.nodes-nodes.result f g)) c.symbols-symbols.ensures.value
          ∙ ap (λ n. cut most_clauses (differ_clauses rule.symbols n f g)) nodes);
    }
