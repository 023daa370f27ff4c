use Rattle.std.proofs.Common.{subst}
use Rattle.dd_pairs.specs.Comparisons.{HaveGates}
use Rattle.dd_pairs.proofs.Pairing.{image_made, change_made}
use Rattle.dd_pairs.proofs.pairs.pair.Goals as goal

pub returns-in-Ok : goal.returns-in-Ok
returns-in-Ok c =
    let ok = c.in-Ok.ensures in
    let new = c.new.ensures in
    rw (c.in-Image.is, new.value)
    (image_made c.args.setting.now c.in-Ok.left c.in-Ok.right c.in-Image.premise.now c.in-Image.map.now c.in-Image.target.now ok.ok ok.formed ok.shallow
    (subst HaveGates new.value new.gates))

pub returns-in-Ok-identity_pair : goal.returns-in-Ok-identity_pair
returns-in-Ok-identity_pair c =
    let ok = c.in-Ok-identity_pair.ensures in
    let new = c.new-in-Ok-identity_pair.ensures in
    rw (c.in-Change.is, new.value)
    (change_made c.args.setting.now c.in-Ok-identity_pair.left c.in-Ok-identity_pair.right c.in-Change.premise.now c.in-Change.outer.now c.in-Change.inner.now ok.ok ok.formed
    (subst HaveGates new.value new.gates))
