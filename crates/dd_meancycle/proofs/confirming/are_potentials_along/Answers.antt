use Rattle.std.proofs.{Common.◌*◌, Common.pos, Common.◌-ℤ◌, Common.◌≤ℤ◌, lemmas.List.Elements.All-more}
use Rattle.dd_meancycle.specs.declared.edges.Edge.{Edge}
use Rattle.dd_transfer.specs.Certificates.{potential_of}
use Rattle.dd_meancycle.proofs.Confirmed.{all_taken}
use Rattle.dd_meancycle.proofs.confirming.are_potentials_along.Goals as goal

pub loop-edge-preserved : goal.loop-edge-preserved
loop-edge-preserved c =
    All-more (λ (e : Edge). (potential_of c.args.potentials.now e.to -ℤ potential_of c.args.potentials.now e.from) ≤ℤ (pos (c.args.mean.length * e.weight) -ℤ pos c.args.mean.weight))
    c.args.edges.now c.loop-edge.edge-index _ c.loop-edge-test.true c.loop-edge.invariant (c.is_potential_along.ensures c.if-not-is_potential_along.false)

pub returns : goal.returns
returns c = λ yes.
    all_taken (λ (e : Edge). (potential_of c.args.potentials.now e.to -ℤ potential_of c.args.potentials.now e.from) ≤ℤ (pos (c.args.mean.length * e.weight) -ℤ pos c.args.mean.weight))
    c.args.edges.now c.loop-edge.edge-index c.loop-edge-test.false c.loop-edge.invariant
