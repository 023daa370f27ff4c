use Rattle.std.proofs.Common.{◌≡◌, ◌<◌, ◌+◌, ◌*◌, length, false, [], ap, sym, ◌∙◌, arith}
use Rattle.std.proofs.lemmas.List.{get_or_default}
use Rattle.dd_topology.specs.Sets.{allows}
use Rattle.dd_topology.proofs.SetLaws.{item_at, item_below, length-in_rows}
use Rattle.dd_topology.proofs.sets.Sets.allows.Goals as goal

pub returns-then-symbol-self : goal.returns-then-symbol-self
returns-then-symbol-self c =
    let s = c.self.inside in
    let a = c.args.node in
    let t = c.args.symbol in
    let rows : length c.args.self.now.allowed ≡ s.nodes = ap (λ v. length v.allowed) (sym c.self.view_is) ∙ length-in_rows s.nodes s.symbols s.allowed.items in
    let below : a < s.nodes = omega arith in
    let long : length s.allowed.items ≡ s.nodes * s.symbols = c.self.invariant.1 in
    let within : a * s.symbols + t < length s.allowed.items = omega (arith, item_below s.nodes s.symbols a t below c.if-symbol-self.true) in
    c.index.ensures
    ∙ (get_or_default s.allowed.items (a * s.symbols + t) c.index.result.now false within
    ∙ (sym (item_at s.nodes s.symbols a t s.allowed.items [] false below c.if-symbol-self.true) ∙ ap (λ v. allows v a t) c.self.view_is))
