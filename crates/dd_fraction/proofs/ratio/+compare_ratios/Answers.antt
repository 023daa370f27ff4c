use Rattle.std.proofs.{Common.◌∙◌, Common.sym, Common.arith, lemmas.Cmp.ranked}
use Rattle.std.specs.declared.cmp.Ordering.TheVariants.{Equal}
use Rattle.dd_fraction.proofs.Comparing.{whole_decides, rests_equal, rests_less, rests_greater, rest_cmp}
use Rattle.dd_fraction.proofs.ratio.+compare_ratios.Goals as goal

pub returns-in_default : goal.returns-in_default
returns-in_default t c =
    whole_decides c.args.a c.args.b c.args.c c.args.d c.cmp.result
    c.requires.left c.requires.right c.cmp.ensures c.in_default.not-Equal

pub returns-in-0-eq0 : goal.returns-in-0-eq0
returns-in-0-eq0 t c =
    let whole = ranked _ _ Equal c.in-Equal.ensures in
    rests_equal c.args.a c.args.b c.args.c c.args.d whole (omega arith) (omega arith)

pub returns-in-0-default : goal.returns-in-0-default
returns-in-0-default t c =
    let whole = ranked _ _ Equal c.in-Equal.ensures in
    rests_less c.args.a c.args.b c.args.c c.args.d whole c.requires.left (omega arith) (omega arith)

pub returns-in_default-eq0 : goal.returns-in_default-eq0
returns-in_default-eq0 t c =
    let whole = ranked _ _ Equal c.in-Equal.ensures in
    rests_greater c.args.a c.args.b c.args.c c.args.d whole c.requires.right (omega arith) (omega arith)

pub returns-in_default-2 : goal.returns-in_default-2
returns-in_default-2 t c =
    let whole = ranked _ _ Equal c.in-Equal.ensures in
    c.compare_ratios.ensures ∙ sym (rest_cmp c.args.a c.args.b c.args.c c.args.d whole)
