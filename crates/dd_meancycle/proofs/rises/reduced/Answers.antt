use Rattle.std.proofs.{Common.ℕ, Common.◌≡◌, Common.◌<◌, Common.arith, Common.subst, lemmas.Nat.Gcd.mod-eq-zero_of_dvd}
use Rattle.std.specs.Int.{IsGcd}
use Rattle.dd_meancycle.proofs.Gentle.{is_reduced}
use Rattle.dd_fraction.specs.lemmas.Divisors.{gcd_positive}
use Rattle.dd_meancycle.proofs.rises.reduced.Goals as goal

pub returns-then-common-eq0 : goal.returns-then-common-eq0
returns-then-common-eq0 c = absurd (let p = gcd_positive c.args.mean.weight c.args.mean.length c.gcd-common.result c.gcd-common.ensures c.requires in omega arith)

pub returns : goal.returns
returns c = is_reduced c.args.mean.weight c.args.mean.length c.gcd-common.result c.gcd-common.ensures c.requires (omega arith)
