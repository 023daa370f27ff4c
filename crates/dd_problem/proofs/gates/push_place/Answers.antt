use Rattle.std.proofs.lemmas.Result.{on_ok_weaker}
use Rattle.dd_problem.proofs.PlacesLeft.{place_done}
use Rattle.dd_problem.proofs.gates.push_place.Goals as goal

pub returns-clause-ok : goal.returns-clause-ok
returns-clause-ok c =
    on_ok_weaker c.push_clause.result
    (place_done c.args.inputs.now c.args.template.now.rule c.args.cell.now c.args.encoder.now c.push_template.new.self c.push_clause.new.self c.in_ok-signal.signal c.literal_of.result
    c.in_ok-signal.ensures.ok c.in_ok-signal.ensures.signal c.literal_of.ensures)
    c.push_clause.ensures.ok
