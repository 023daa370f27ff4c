use Rattle.std.proofs.{Common.sym, Common.◌∙◌, Common.subst, Common.arith, lemmas.Grind.common_steps}
use Rattle.dd_pattern.specs.{Filling.IsFilling, lemmas.FillingLaws.missing_from_none}
use Rattle.dd_pattern.proofs.filling.Filling.restrict.Goals as goal

pub returns-in_default : goal.returns-in_default
returns-in_default c =
    let cell = c.cell-item.result in
    let filling : IsFilling c.args.self.now = subst IsFilling c.self.view_is c.self.invariant in record {
      at = cell;
      asked = (c.loop-cell.cell-index, c.loop-cell-test.true, sym c.cell-item.is);
      missing = missing_from_none c.args.self.now filling cell (sym c.symbol.ensures ∙ c.in_default.is);
    }

pub invariant_of-result : goal.invariant_of-result
invariant_of-result c = grind (arith, common_steps)

pub loop-cell-preserved : goal.loop-cell-preserved
loop-cell-preserved c = grind (arith, common_steps)

pub returns : goal.returns
returns c = grind (arith, common_steps)
