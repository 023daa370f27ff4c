use Rattle.std.proofs.Common.{refl, sym, ◌∙◌, arith}
use Rattle.dd_formed.specs.Formed.{numbers_of}
use Rattle.dd_formed.proofs.automata.given.Goals as goal

pub given-requires : goal.given-requires
given-requires c =
    rw (c.in_ok-copy_of.ensures) (record { setting = numbers_of c.args.numbers; fit = sym c.cases_fit.ensures ∙ c.if-not-cases_fit.false; all = refl; some = grind (arith, c.if-numbers-eq0.false) })
