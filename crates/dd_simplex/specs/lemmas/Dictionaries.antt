-- A run ends with at most one dictionary.
use Rattle.dd_simplex.specs.{Dictionaries.Dictionary, Runs.Ends}
use Rattle.std.proofs.Common.{◌≡◌}

pub ends_same : (d e : Dictionary) → Ends d ≡ Ends e → d ≡ e
ends_same d e h = cc
