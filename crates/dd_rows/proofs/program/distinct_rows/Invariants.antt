use Rattle.std.proofs.Common.{◌≡◌, ◌≤◌, [], ◌∷◌, take, map, length, fold}
use Rattle.dd_rows.specs.Programs.{add_row, most_rows}
use Rattle.dd_rows.specs.listing.Sparse.{dense, capped, required_row, AreSparse}
use Rattle.dd_rows.proofs.program.distinct_rows.Given as goal

abbrev pub invariant-loop-symbols : goal.invariant-loop-symbols
invariant-loop-symbols l = record {
  rows : map (dense (length l.patterns)) l.rows.keys
      ≡ fold add_row (capped (length l.views.givers) (length l.patterns) l.heaviest ∷ []) (map (required_row l.patterns l.views l.weights) (take l.symbols-index l.fillings));
  sparse : AreSparse (length l.views.givers) (length l.patterns) l.rows.keys;
  few : length l.rows.keys ≤ most_rows;
}
