-- The image of a periodic configuration under an automaton, and whether two automata differ at the origin.
use Rattle.std.specs.{Prelude.ℕ, Prelude.◌<◌, Prelude.◌≡◌, Prelude.Some, List.All}
use Rattle.dd_lattice.specs.declared.position.Cell.{Cell}
use Rattle.dd_pattern.specs.Tile.{Tile, tile_look}
use Rattle.dd_expansion.specs.Terms.{origin_at}
use Rattle.dd_formula.specs.{Automata.CommonNumbers, Automata.IsAutomaton, Automata.value, declared.automaton.Automaton.Automaton}

-- the numbers over which an automaton must be well formed: the configuration's dimension, its number of nodes, and n as the size of the alphabet
abbrev pub tile_numbers : Tile → ℕ → CommonNumbers
tile_numbers t n = record { dimension = t.dimension; nodes = t.nodes; symbols = n }

-- the automaton is well formed over the configuration's dimension and nodes and over some alphabet, and this alphabet has all
-- symbols of the configuration
pub record IsDefinedOn (f : Automaton) (t : Tile) : Type 0 where
  pub symbols : ℕ
  pub formed : IsAutomaton (tile_numbers t symbols) f
  pub below : All (λ s. s < symbols) t.symbols

-- u is the image of t under f: it has the same dimension, periods, shear and nodes, and the automaton's value at each cell
pub record IsImage (f : Automaton) (t u : Tile) : Type 0 where
  pub dimension : u.dimension ≡ t.dimension
  -- the periods with their shear
  pub periods : u.periods ≡ t.periods
  pub nodes : u.nodes ≡ t.nodes
  pub values : (c : Cell) → c.node < t.nodes → tile_look u c ≡ Some (value f (tile_look t) c)
  -- the values are symbols of each alphabet over which the automaton is well formed
  pub below : (n : ℕ) → IsAutomaton (tile_numbers t n) f → All (λ s. s < n) u.symbols

-- the automata give some cell at the origin different symbols
abbrev pub DifferAtOrigin : Automaton → Automaton → Tile → Type 0
DifferAtOrigin f g t = (a : ℕ) × (a < t.nodes) × (value f (tile_look t) (origin_at a) ≡ value g (tile_look t) (origin_at a) → ⊥)
