use Rattle.std.proofs.Common.{◌≡◌, sym, subst}
use Rattle.dd_trail.specs.Trails.{IsFull}
use Rattle.dd_solver.specs.searching.Search.{State, AreOpen}
use Rattle.dd_solver.proofs.search.Search.settle.Goals as goal

pub assignment-requires-clause-open : goal.assignment-requires-clause-open
assignment-requires-clause-open c =
    let before = c.propagate.new.self in
    let h : IsFull before.variables before.entries → AreOpen before = rw c.in_default.is at c.in_ok-conflict.ensures.conflict in
    let w = c.in_ok-decide.ensures.full (cc) in
    let same : c.decide.new.self ≡ before = w.0 in
    subst AreOpen (sym same) (h (subst (λ (s : State). IsFull s.variables s.entries) same w.1))
