use Rattle.std.proofs.Common.{◌<◌, sym, subst}
use Rattle.dd_formula.specs.lemmas.Reached.{filling_below}
use Rattle.dd_boxes.specs.Views.{numbers_of}
use Rattle.dd_trials.proofs.boxes.value.Goals as goal

pub value-requires : goal.value-requires
value-requires c =
    let x = c.args.premise.now in
    record {
      setting = numbers_of x;
      formed = c.requires.formed;
      below = subst (λ a. a < x.nodes) (sym c.at_origin.ensures) c.requires.node;
      symbols = filling_below x.symbols c.args.filling.now c.requires.below;
    }
