use Rattle.dd_strip.specs.Strips.{strip_for}
use Rattle.dd_strips.proofs.Densities.{strip_fits, strip_least_law}
use Rattle.dd_strips.proofs.laws.strip_least.Goals as goal

pub returns : goal.returns
returns c r periods ws p q walk ps rule is certificate =
    let s = strip_for r periods in
    let for = strip_fits r periods rule is in
    strip_least_law r s rule for (λ look. c.slices_are_walks.ensures.edges r s look rule for) (c.slices_are_walks.ensures.digits r.symbols) ws p q walk ps certificate
