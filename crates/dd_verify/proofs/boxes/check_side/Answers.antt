use Rattle.dd_verify.specs.Evidence.{left_no, right_no}
use Rattle.dd_verify.proofs.BoxForms.{decides, no_fits, left_of, right_of}
use Rattle.dd_verify.proofs.boxes.check_side.Goals as goal

pub returns-in-Left : goal.returns-in-Left
returns-in-Left c = rw c.in-Left.is (decides c.check_no.result _ _ _ (no_fits c.requires.limits c.symbols-left.ensures.kept) left_no left_of c.check_no.ensures)

pub returns-in-Right : goal.returns-in-Right
returns-in-Right c =
    rw c.in-Right.is (decides c.check_no-in-Right.result _ _ _ (no_fits c.requires.limits c.symbols-right.ensures.kept) right_no right_of c.check_no-in-Right.ensures)
