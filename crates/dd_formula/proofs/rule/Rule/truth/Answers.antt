use Rattle.std.proofs.Common.{◌∙◌}
use Rattle.dd_expansion.specs.lemmas.TruthAt.{truth_where_given}
use Rattle.dd_formula.proofs.rule.Rule.truth.Goals as goal

pub returns-clause-value : goal.returns-clause-value
returns-clause-value g c =
    let r = c.args.self.now in
    let kept = c.truth_of_expansion.ensures.kept in
    c.truth_of_expansion.ensures.value ∙ truth_where_given r.edges r.symbols r.formula c.args.at.now (g.R.Reads.symbols c.args.read.now) kept.symbols.0 c.requires.symbols
