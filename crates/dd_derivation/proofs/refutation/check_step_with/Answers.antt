use Rattle.std.proofs.Common.{◌≡◌, length, arith, ◌∙◌}
use Rattle.dd_derivation.proofs.Whole.{step_right_at}
use Rattle.dd_derivation.proofs.refutation.check_step_with.Goals as goal

pub returns : goal.returns
returns c =
    let n : length c.clear.new.marks ≡ c.args.cnf.now.variables = c.clear.auto.marks ∙ c.requires.variables in
    let value = rw (n, c.clauses.ensures.value) at c.check_one.ensures.value in
    value ∙ step_right_at c.args.cnf.now.variables c.args.cnf.now.clauses c.args.steps.now c.args.index c.index-steps-index.result c.revive.new.alive c.delete_earlier.new.alive c.requires.exists c.index-steps-index.is (omega arith) c.revive.ensures c.delete_earlier.ensures
