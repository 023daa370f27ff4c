use Rattle.dd_rows.specs.lemmas.FormulaLaws.{says_true_if}
use Rattle.dd_rows.proofs.places.formula_at.Goals as goal

pub returns : goal.returns
returns c =
    says_true_if c.args.rule.now c.args.cells.now c.new-near.result.cells.now c.args.place.now c.new-near.result.at c.new.result c.expansion.result.now c.requires.near c.expansion.ensures.truth
    c.new-near.ensures.cells c.new-near.ensures.at c.new.ensures.truth
