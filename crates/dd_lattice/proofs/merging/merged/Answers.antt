use Rattle.std.proofs.{Common.arith, lemmas.List.take_rest}
use Rattle.dd_lattice.specs.Order.{place_cmp}
use Rattle.dd_lattice.proofs.MergeLaws.{nothing_merged, merged_step, from_left_most, from_right_most, right_follows, nothing_follows}
use Rattle.dd_lattice.proofs.merging.merged.Goals.{then-loop-i-test+else-j-right, else-loop-i-test}
use Rattle.dd_lattice.proofs.merging.merged.Goals as goal

pub loop-i-init : goal.loop-i-init
loop-i-init c = rw c.new-members.ensures.items (nothing_merged c.args.left.now c.args.right.now c.requires.left.ascending c.requires.right.ascending, omega arith, omega arith)

pub loop-i-preserved : goal.loop-i-preserved
loop-i-preserved c =
    let xs = c.args.left.now in
    let ys = c.args.right.now in
    let x = c.index-left-i.result in
    let y = c.index-right-j.result in
    let taken = c.next_of-next.ensures in
    let step = merged_step xs ys c.loop-i.members.items c.loop-i.i c.loop-i.j x y c.loop-i-test.true c.if-j-right.true c.index-left-i.is c.index-right-j.is c.loop-i.invariant.0 in
    let most = from_left_most (place_cmp x y) in
    let most' = from_right_most (place_cmp x y) in
    rw (c.in_ok-push.ensures.items, taken.position, taken.left, taken.right) (step, omega arith, omega arith)

pub returns : goal.returns
returns c =
    let xs = c.args.left.now in
    let ys = c.args.right.now in
    let i = c.loop-i.i in
    let j = c.loop-i.j in
    let made = c.loop-i.members.items in
    rw (c.in_ok-extend_from_slice-2.ensures.items, c.in_ok-extend_from_slice.ensures.items, take_rest xs i, take_rest ys j) (elim c.loop-i-test.branch [
      | then-loop-i-test+else-j-right w ↦ nothing_follows xs ys made i j c.requires.left c.requires.right c.loop-i.invariant.0 w.if-j-right.false
      | else-loop-i-test w ↦ right_follows xs ys made i j c.requires.left c.requires.right c.loop-i.invariant.0 w.loop-i-test.false
    ])
