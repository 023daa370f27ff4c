use Rattle.std.proofs.Common.{arith}
use Rattle.dd_verify.specs.Evidence.{box_yes, box_no}
use Rattle.dd_verify.proofs.BoxForms.{decides, yes_fits, no_fits, yes_of, no_of}
use Rattle.dd_verify.proofs.boxes.check_box.Goals as goal

pub returns-in-Yes : goal.returns-in-Yes
returns-in-Yes c = rw (c.in-Yes.is, ← c.as_slice.ensures) (grind (arith, yes_fits, box_yes, yes_of))

pub returns-else-not-is_whole : goal.returns-else-not-is_whole
returns-else-not-is_whole c =
    rw (c.in-No.is, c.is_whole.ensures.0 c.if-not-is_whole.false, ← c.as_slice-in-No.ensures, ← c.as_slice-in-No-2.ensures)
    (decides c.check_no.result _ _ _ (no_fits c.requires.limits c.symbols-symbols.ensures.kept) box_no no_of c.check_no.ensures)
