use Rattle.std.proofs.Common.{◌+◌, ◌*◌, ◌++◌, length, ap, ◌∙◌, arith}
use Rattle.dd_expansion.proofs.Unions.{union_more, near_more, union_ordered, near_ordered}
use Rattle.dd_expansion.proofs.terms.cells_of.Goals as goal

pub loop-ball-preserved : goal.loop-ball-preserved
loop-ball-preserved c =
    let cells = c.loop-ball.cells.items in
    let next = c.in_ok-next.next.items in
    let joins = c.in_ok-extend_from_slice.ensures.items ∙ ap (λ l. cells ++ l) c.deref.ensures.value in
    record {
      same = union_more c.args.topology.now.edges c.args.env.now c.args.balls.now c.loop-ball.ball-index (record { variable = 0; radius = 0 }) cells next _ (omega arith) c.loop-ball.invariant.same c.in_ok-next.ensures.list joins;
      near = near_more (12 * (length c.args.env.now + 1)) cells next _ c.loop-ball.invariant.near c.in_ok-next.ensures.near joins;
    }

pub returns-clause-list : goal.returns-clause-list
returns-clause-list c =
    let ordered = c.in_ok-ordered.ordered.items in
    let members = rw c.deref-2.ensures.value at c.in_ok-ordered.ensures.members in
    union_ordered c.args.topology.now.edges c.args.env.now c.args.balls.now c.loop-ball.ball-index c.loop-ball.cells.items ordered (omega arith) c.loop-ball.invariant.same members c.in_ok-ordered.ensures.order

pub returns-clause-near : goal.returns-clause-near
returns-clause-near c =
    let members = rw c.deref-2.ensures.value at c.in_ok-ordered.ensures.members in
    near_ordered (12 * (length c.args.env.now + 1)) c.loop-ball.cells.items c.in_ok-ordered.ordered.items c.loop-ball.invariant.near members
