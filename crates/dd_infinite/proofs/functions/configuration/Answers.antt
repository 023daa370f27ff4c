use Rattle.std.proofs.Common.{length, get_or, ap, sym, subst, ◌∙◌, arith}
use Rattle.std.specs.List.{Contains}
use Rattle.std.proofs.lemmas.List.Elements.{Contains-get_or}
use Rattle.dd_infinite.proofs.Whole.{whole_of}
use Rattle.dd_infinite.proofs.functions.configuration.Goals as goal

-- the configuration that is returned is one of the script's, so each of its cells has an allowed symbol
pub returns-then-number-configurations-clause-whole : goal.returns-then-number-configurations-clause-whole
returns-then-number-configurations-clause-whole c =
    let all = c.args.script.now.configurations in
    let told = c.configurations-configurations.ensures in
    let i = c.args.number in
    let t = c.index-configurations-number.result in
    whole_of c.args.script.now told.kept t c.symbols-symbols.ensures.reads
    (subst (Contains all) (sym (c.index-configurations-number.is ∙ ap (λ ts. get_or ts i t) told.value))
    (Contains-get_or all i t (omega (arith, c.if-number-configurations.true, ap length told.value))))
