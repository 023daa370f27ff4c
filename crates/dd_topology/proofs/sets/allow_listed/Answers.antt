use Rattle.std.proofs.{Common.length, Common.ap, Common.◌∙◌, lemmas.List.take_all}
use Rattle.dd_topology.specs.Sets.{is_listed}
use Rattle.dd_topology.proofs.SetLaws.{listed_rows}
use Rattle.dd_topology.proofs.sets.allow_listed.Goals as goal

pub returns : goal.returns
returns c =
    listed_rows c.loop-symbol.row (length c.args.row.now) c.args.symbols.now (c.loop-symbol.auto.row ∙ c.loop-answer.auto.row) (λ t h.
    c.loop-symbol.invariant t h ∙ ap (λ l. is_listed l t) (take_all c.loop-symbol.symbol-index c.args.symbols.now c.loop-symbol-test.false))
