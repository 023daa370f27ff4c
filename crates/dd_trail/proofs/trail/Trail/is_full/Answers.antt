use Rattle.std.proofs.Common.{arith}
use Rattle.dd_trail.proofs.Denied.{full}
use Rattle.dd_trail.proofs.trail.Trail.is_full.Goals as goal

pub returns : goal.returns
returns c =
    let t = c.self.inside in
    rw (← c.self.view_is) (full t.variables t.entries.items t.denied.items c.len.result c.self.invariant (omega (arith, t.entries.ok.0)))
