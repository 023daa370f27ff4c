use Rattle.std.proofs.Common.{ap}
use Rattle.dd_numbered.specs.declared.numbered.Numbered.TheVariants as formula
use Rattle.dd_numbered.specs.Numbering.{Numbering}
use Rattle.dd_numbered.proofs.Layers.{numbered_and, numbered_or}
use Rattle.dd_numbered.proofs.making.+numbered.Goals as goal

pub numbered-returns-in_ok-all_numbered-in-And : goal.numbered-returns-in_ok-all_numbered-in-And
numbered-returns-in_ok-all_numbered-in-And g t c =
    let number : Numbering = g.N.Numbers.numbering c.args.numbers.now in
    rw (c.in-And.is, numbered_and number c.in-And.parts, ← c.as_slice.ensures) (ap formula.And c.in_ok-all_numbered-in-And.ensures)

pub numbered-returns-in_ok-all_numbered-in-Or : goal.numbered-returns-in_ok-all_numbered-in-Or
numbered-returns-in_ok-all_numbered-in-Or g t c =
    let number : Numbering = g.N.Numbers.numbering c.args.numbers.now in
    rw (c.in-Or.is, numbered_or number c.in-Or.parts, ← c.as_slice-in-Or.ensures) (ap formula.Or c.in_ok-all_numbered-in-Or.ensures)
