use Rattle.dd_verify.proofs.{Deciding.nothing_holds, TorusForms.none_decides, TorusForms.no_torus}
use Rattle.dd_values.specs.lemmas.Results.{if_ok_both}
use Rattle.dd_verify.proofs.tori.check_torus.Goals as goal

pub returns-in-Least : goal.returns-in-Least
returns-in-Least c = rw (c.in-Least.is, ← c.as_slice.ensures, ← c.as_slice-in-Least.ensures) c.is_least.ensures

pub returns-in-Nothing : goal.returns-in-Nothing
returns-in-Nothing c =
    rw (c.in-Nothing.is, ← c.as_slice-in-Nothing.ensures)
    (if_ok_both c.refutes_below.result _ _ _ (none_decides c.args.rule.now c.args.periods c.args.weights.now _) c.refutes_below.ensures.exact c.refutes_below.ensures.writable)

pub returns-in_default : goal.returns-in_default
returns-in_default c = nothing_holds _ (λ both. no_torus _ _ _ _ c.in_default.not-Least c.in_default.not-Nothing both.1)
