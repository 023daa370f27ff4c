use Rattle.std.proofs.{Common.◌≡◌, Common.sym, Common.ap, Common.◌∙◌, Common.arith, lemmas.Int.ints}
use Rattle.std.specs.Int.{w64}
use mir.Val.{SFits}
use lib.IntN.{pos}
use borrow.Author.Differences.{same_in}
use Rattle.dd_fraction.specs.Exact.{whole_of}
use Rattle.dd_fraction.proofs.LessProduct.{lowest_zero}
use Rattle.dd_fraction.proofs.fraction.reduced_words.Goals as goal

pub returns-then-num-eq0 : goal.returns-then-num-eq0
returns-then-num-eq0 c =
    let fits : SFits w64 c.args.num = c.ranges.num in
    let is = c.if-num-eq0.true in
    let none : c.args.num ≡ pos 0 = same_in _ _ (omega (arith, ints, fits, is)) in
    c.whole.ensures ∙ (ap whole_of (sym none) ∙ sym (lowest_zero c.args.num c.args.den c.requires none))
