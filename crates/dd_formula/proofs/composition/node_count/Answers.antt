use Rattle.dd_formula.specs.{Compositions.composition, lemmas.CompositionLaws.stands_all, lemmas.CompositionLaws.stands_one}
use Rattle.dd_formula.proofs.composition.node_count.Goals as goal

pub returns-in-Some : goal.returns-in-Some
returns-in-Some c s outer inner = stands_all s (composition c.args.outer.now c.args.inner.now) c.in-Some.nodes (c.in-Some.ensures s outer.fits)

pub returns-in-Some-nodes : goal.returns-in-Some-nodes
returns-in-Some-nodes c s outer inner =
    stands_all s (composition c.args.outer.now c.args.inner.now) c.in-Some-nodes.nodes (c.in-Some-nodes.ensures s inner.fits)

pub returns-in-None-nodes : goal.returns-in-None-nodes
returns-in-None-nodes c s outer inner = stands_one s c.args.outer.now c.args.inner.now c.in-None.ensures c.in-None-nodes.ensures outer.some
