-- The defaults, and the sets of symbols that nodes allow at first.
use Rattle.std.specs.Prelude.{ℕ, List, [], ◌∷◌, length, false, codes}
use Rattle.dd_topology.specs.{Builtin.square, Sets.SymbolSets, Sets.all_symbols}
use Rattle.dd_known.specs.declared.known.Known.{Known}

-- the defaults: the square topology with the node 0, the symbols 0 and 1, which weigh 0 and 1, and search limits of radius 4, period 4 and 10,000
-- pivots
abbrev pub known_start : Known
known_start =
    record {
      setting = record { nodes = codes "0" ∷ []; symbols = codes "0" ∷ codes "1" ∷ []; topology = square; sets = all_symbols 1 2 };
      nodes_are_given = false;
      restricted = [];
      weights = 0 ∷ 1 ∷ [];
      limits = record { radius = 4; period = 4; pivots = 10000 };
      rules = [];
      automata = [];
      configurations = [];
    }

-- `k`, but with these sets of symbols in place of its own, and with these nodes as the restricted ones
abbrev pub allowing : Known → SymbolSets → List ℕ → Known
allowing k sets nodes = record k { setting = record (k.setting) { sets = sets }; restricted = nodes }

-- `k`, except that each node allows each symbol and no node is restricted
abbrev pub unrestricted : Known → Known
unrestricted k = allowing k (all_symbols (length k.setting.nodes) (length k.setting.symbols)) []
