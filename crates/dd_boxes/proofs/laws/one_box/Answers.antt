use Rattle.dd_boxes.specs.{Views.goal_of, lemmas.OneBoxLaws.one_box_law}
use Rattle.dd_boxes.proofs.laws.one_box.Goals as goal

pub returns : goal.returns
returns c = one_box_law c.args._premise.now (goal_of c.args._premise.now c.args._goal.now)
