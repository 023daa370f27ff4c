use Rattle.std.proofs.{Common.◌≡◌, Common.take, lemmas.List.take_all, lemmas.Result.IfOk-weaker}
use Rattle.dd_lattice.specs.{InOrder.in_order, InOrder.HaveSameCells, lemmas.InOrderLaws.in_order_members}
use Rattle.dd_lattice.proofs.ordering.in_order.Goals as goal

pub returns-clause-members : goal.returns-clause-members
returns-clause-members c =
    let cells = c.args.cells.now in
    let whole : take c.loop-cell.cell-index cells ≡ cells = take_all c.loop-cell.cell-index cells c.loop-cell-test.false in
    let all : c.loop-cell.found.keys ≡ in_order cells = rw whole at c.loop-cell.invariant in
    IfOk-weaker c.listed.result (λ v. v.items ≡ c.loop-cell.found.keys) (λ v. HaveSameCells v.items cells) (λ v e. rw (e, all) (in_order_members cells)) c.listed.ensures.list
