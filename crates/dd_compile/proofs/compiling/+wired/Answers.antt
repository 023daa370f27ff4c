use Rattle.std.proofs.{Common.◌∙◌, Common.ap, Common.sym, Common.arith, lemmas.Grind.common_steps}
use Rattle.dd_circuit.specs.Circuits.{size}
use Rattle.dd_compile.specs.Compiling.{wires_near, are_wired, all_wired}
use Rattle.dd_compile.specs.lemmas.Layers.{wired_and, wired_or}
use Rattle.dd_compile.proofs.compiling.+wired.Goals as goal

pub is_wired-returns-in-And : goal.is_wired-returns-in-And
is_wired-returns-in-And t c =
    let n = size c.args.circuit.now in
    let w = wires_near c.args.inputs.now c.args.at.now in
    c.are_wired.ensures ∙ (ap (all_wired n w) c.as_slice.ensures ∙ (sym (wired_and n w c.in-And.parts) ∙ ap (are_wired n w) (sym c.in-And.is)))

pub is_wired-returns-in-Or : goal.is_wired-returns-in-Or
is_wired-returns-in-Or t c =
    let n = size c.args.circuit.now in
    let w = wires_near c.args.inputs.now c.args.at.now in
    c.are_wired-in-Or.ensures ∙ (ap (all_wired n w) c.as_slice-in-Or.ensures ∙ (sym (wired_or n w c.in-Or.parts) ∙ ap (are_wired n w) (sym c.in-Or.is)))

pub are_wired-loop-part-preserved : goal.are_wired-loop-part-preserved
are_wired-loop-part-preserved t c = grind (arith, common_steps)
