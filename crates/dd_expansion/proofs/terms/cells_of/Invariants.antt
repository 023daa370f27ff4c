use Rattle.std.proofs.Common.{◌+◌, ◌*◌, length, take}
use Rattle.dd_lattice.specs.InOrder.{HaveSameCells}
use Rattle.dd_expansion.specs.{Terms.balls_of, expanding.Near.AreNear}
use Rattle.dd_expansion.proofs.terms.cells_of.Given as goal

abbrev pub invariant-loop-ball : goal.invariant-loop-ball
invariant-loop-ball l = record {
  same : HaveSameCells l.cells.items (balls_of l.topology.edges l.env (take l.ball-index l.balls));
  near : AreNear (12 * (length l.env + 1)) l.cells.items;
}
