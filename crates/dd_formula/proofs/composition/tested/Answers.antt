use Rattle.dd_formula.proofs.composition.tested.Goals as goal

pub has_few-requires : goal.has_few-requires
has_few-requires c = record {
  both = c.requires;
  few = (c.node_count-nodes.ensures c.requires.setting c.requires.outer c.requires.inner).below;
}

pub has_short-requires : goal.has_short-requires
has_short-requires c = record {
  both = c.requires;
  few = (c.node_count-nodes.ensures c.requires.setting c.requires.outer c.requires.inner).below;
}
