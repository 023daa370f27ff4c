use Rattle.dd_boxes.specs.Views.{goal_of}
use Rattle.dd_contain.proofs.AnswerLaws.{trichotomy_law}
use Rattle.dd_contain.proofs.laws.trichotomy.Goals as goal

pub returns : goal.returns
returns c = trichotomy_law c.args.premise.now (goal_of c.args.premise.now c.args.goal.now) c.one_box.ensures c.requires
