use Rattle.std.proofs.Common.{sym, ◌∙◌}
use Rattle.dd_derivation.specs.{Derivations.clauses_before, lemmas.Numbers.length-before}
use Rattle.dd_trail.proofs.Numbers.{length-known_of}
use Rattle.dd_trail.proofs.database.Database.new.Goals as goal

pub invariant_of-result : goal.invariant_of-result
invariant_of-result c =
    let clauses = c.args.clauses.now in
    let steps = c.args.steps.now in
    rw c.new.ensures (sym (length-known_of (clauses_before clauses steps) c.args.alive.now (rw (length-before clauses steps) c.requires) ∙ length-before clauses steps))
