use Rattle.std.proofs.{Common.arith, lemmas.Grind.common_steps}
use Rattle.dd_faults.specs.lemmas.Layers.{faults_chain, faults_quantified}
use Rattle.dd_faults.proofs.Noting.{noted_both}
use Rattle.dd_faults.proofs.formulas.+formula.Goals as goal

pub returns-in_ok-formula-in-Quantified : goal.returns-in_ok-formula-in-Quantified
returns-in_ok-formula-in-Quantified t c =
    rw (c.in-Quantified.is, faults_quantified, noted_both, ← c.as_slice.ensures, ← c.quantifier.ensures, ← c.get.ensures, ← c.in_ok-inner-in-Quantified.ensures, ← c.as_slice-in-Quantified.ensures)
    c.in_ok-formula-in-Quantified.ensures

pub returns-after-loop-part : goal.returns-after-loop-part
returns-after-loop-part t c = rw (c.in-Chain.is, faults_chain, ← c.as_slice-part-items.ensures) (grind (arith, common_steps))
