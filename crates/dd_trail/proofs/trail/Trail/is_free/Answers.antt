use Rattle.std.proofs.Common.{◌≡◌, ◌+◌, ◌*◌, true, false, get_or, sym, ◌∙◌, refl, arith}
use Rattle.dd_trail.proofs.Denied.{free_exactly}
use Rattle.dd_trail.specs.lemmas.Trails.{get_any}
use Rattle.dd_trail.proofs.trail.Trail.is_free.Goals as goal

pub returns-then-not-index : goal.returns-then-not-index
returns-then-not-index c =
    let t = c.self.inside in
    let v = c.args.variable in
    let denied = t.denied.items in
    let many = c.self.invariant.as_many in
    let low : get_or denied (2 * v) false ≡ false = get_any denied (2 * v) false c.index.result.now (omega arith) ∙ sym c.index.ensures ∙ c.if-not-index.true in
    let high = get_any denied (2 * v + 1) false c.index-then-not-index.result.now (omega arith) ∙ sym c.index-then-not-index.ensures in
    rw (← c.self.view_is) (free_exactly t.variables t.entries.items denied v false c.index-then-not-index.result.now c.self.invariant (omega arith) (omega arith) low high)

pub returns-else-not-index : goal.returns-else-not-index
returns-else-not-index c =
    let t = c.self.inside in
    let v = c.args.variable in
    let denied = t.denied.items in
    let many = c.self.invariant.as_many in
    let low : get_or denied (2 * v) false ≡ true = get_any denied (2 * v) false c.index.result.now (omega arith) ∙ sym c.index.ensures ∙ c.if-not-index.false in
    rw (← c.self.view_is, c.if-not-index.false) (free_exactly t.variables t.entries.items denied v true (get_or denied (2 * v + 1) false) c.self.invariant (omega arith) (omega arith) low refl)
