use Rattle.std.proofs.{Common.◌<◌, Common.◌∙◌, Common.sym, Common.refl, Common.length, Common.arith, lemmas.Option.slice_get_read}
use Rattle.std.proofs.lemmas.Bool.{not-false, not-true}
use Rattle.dd_topology.proofs.MoveLaws.{single_more, repeats_from, new_from, moves_more}
use Rattle.dd_topology.proofs.topology.moves_of.Goals as goal

pub returns-in-Ok-false-clause-fault : goal.returns-in-Ok-false-clause-fault
returns-in-Ok-false-clause-fault c = record {
  at = c.loop-edge.edge-index;
  edge = c.edge-item.result;
  stands = slice_get_read c.args.edges.now (length c.args.edges.now) c.loop-edge.edge-index c.edge-item.result refl (omega arith) c.edge-item.is;
  labelled = refl;
  repeats = repeats_from _ c.loop-edge.moves.keys c.edge-item.result c.loop-edge.invariant.0 (not-false _ (sym c.in-Ok-false.ensures.added ∙ c.in-Ok-false.field-0-test));
  first = c.loop-edge.invariant.1;
}

pub loop-edge-preserved : goal.loop-edge-preserved
loop-edge-preserved c =
    let below : c.loop-edge.edge-index < length c.args.edges.now = omega arith in (
      c.in-Ok-true.ensures.keys ∙ moves_more c.args.edges.now c.loop-edge.edge-index c.loop-edge.moves.keys c.edge-item.result below c.edge-item.is c.loop-edge.invariant.0 (not-true _ (sym c.in-Ok-true.ensures.added ∙ c.in-Ok-true.field-0-test)),
      single_more c.args.edges.now c.loop-edge.edge-index c.edge-item.result below c.edge-item.is c.loop-edge.invariant.1 (new_from _ c.loop-edge.moves.keys c.edge-item.result c.loop-edge.invariant.0 (not-true _ (sym c.in-Ok-true.ensures.added ∙ c.in-Ok-true.field-0-test))),
    )
