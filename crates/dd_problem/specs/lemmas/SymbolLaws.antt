-- The symbols of a configuration of a torus, read from an assignment.
use Rattle.dd_pattern.specs.{declared.periods.Periods.Periods, Tile.IsTile, Tile.Tile, Periods.periods_volume}
use Rattle.std.proofs.Common.{sym, ◌*◌, length, ◌≡◌, arith, get_or, ◌<◌, Bool, ℕ}
use Rattle.std.proofs.lemmas.Option.{slice_get-get_or}
use Rattle.dd_formula.specs.{Living.Fits, LocalRule.LocalRule}
use Rattle.dd_boxes.specs.Witnesses.{HasPeriods}
use Rattle.dd_problem.specs.Symbols.{AreRead, HasOneEach}

-- the list of symbols of a configuration with these periods has one symbol for each cell of the torus
pub size_is : (x : LocalRule) (p : Periods) (t : Tile) → IsTile t → HasPeriods p t → Fits x t → length t.symbols ≡ periods_volume p * x.nodes
size_is x p t tile has fit = rw (sym has, sym fit.nodes) tile.full

-- if the symbols of a configuration with these periods are read from an assignment, exactly one input of each cell is true
pub one_each_read : (x : LocalRule) (p : Periods) (set : ℕ → Bool) (t : Tile) → IsTile t → HasPeriods p t → Fits x t → AreRead set x.symbols t.symbols →
    HasOneEach set x.symbols (periods_volume p * x.nodes)
one_each_read x p set t tile has fit read k below =
    let full = size_is x p t tile has fit in
    let within : k < length t.symbols = omega (arith, below, full) in
    (get_or t.symbols k 0, (fit.symbols k 0 within, λ s small. rw (slice_get-get_or t.symbols k 0 within) at (read k s within small)))
