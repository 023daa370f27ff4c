use Rattle.std.proofs.{Common.◌∙◌, Common.to_z, Common.of_z, Common.w64, Common.FitsSigned, Common.rules, lemmas.Int.to_z-of_z}
use Rattle.dd_rows.specs.listing.Sparse.{entry}
use Rattle.dd_rows.proofs.Collected.{range_after}
use Rattle.dd_rows.proofs.sparse.push_entries.Goals as goal

pub loop-pattern-preserved : goal.loop-pattern-preserved
loop-pattern-preserved c =
    let fits : FitsSigned w64 c.entry.result = search rules in
    range_after (entry c.args.exchange.now) c.args.coefficients.now c.loop-pattern.pattern c.loop-pattern.coefficients c.push.new.self (to_z w64 (of_z w64 c.entry.result))
    c.loop-pattern.invariant (to_z-of_z w64 c.entry.result fits ∙ c.entry.ensures) c.in_ok-push.ensures.ok
