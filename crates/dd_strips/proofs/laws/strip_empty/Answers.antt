use Rattle.dd_strip.specs.Strips.{strip_for}
use Rattle.dd_strips.proofs.Densities.{strip_fits, strip_empty_law}
use Rattle.dd_strips.proofs.laws.strip_empty.Goals as goal

pub returns : goal.returns
returns c r periods ranks rule is certificate =
    let s = strip_for r periods in
    let for = strip_fits r periods rule is in
    strip_empty_law r s rule for (λ look. c.slices_are_walks.ensures.edges r s look rule for) ranks certificate
