use Rattle.std.proofs.Common.{◌≡◌}
use Rattle.dd_transfer.specs.Windows.{AreWindows, digits, shown, window_cells}
use Rattle.dd_transfer.proofs.building.kept_windows.Given as goal

abbrev pub invariant-loop-number : goal.invariant-loop-number
invariant-loop-number l = record {
  window_is : l.window ≡ shown l.fn.strip (digits l.rule.symbols (window_cells l.rule l.fn.strip) l._number);
  windows : AreWindows l.rule l.fn.strip l._number l.kept.items;
}
