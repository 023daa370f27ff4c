-- Transfer graphs. A slice lies at one value of x and gives a symbol to each cell there. A state consists of consecutive slices.
-- An edge by a slice leads from a state to the state that results if the first slice is dropped and this slice is appended.
use Rattle.std.specs.Prelude.{◌≡◌, ℕ, ◌+◌, ◌*◌, ◌%◌, ◌<◌, ◌≤◌, ◌^◌, Bool, false, ◌&&◌, cond, nat_lt, List, length, slice_index, slice_index_or, Option, Some, None}
use Rattle.dd_counts.specs.Rules.{most_states, most_windows}

-- Slices are numbered. Rows of slices, such as states, are numbered too: the digits are the slices, and the first slice is the most significant
-- digit. A window is a state followed by one more slice.
pub record Transfer : Type 0 where
  pub states : ℕ
  pub slices : ℕ
  -- for each window, by its number, whether it is an edge
  pub windows : List Bool
  -- for each slice, by its number, its weight
  pub weights : List ℕ

-- the graph with these parts
abbrev pub transfer : ℕ → ℕ → List Bool → List ℕ → Transfer
transfer states slices windows weights = record { states = states; slices = slices; windows = windows; weights = weights }

-- the number of the window that is the state u followed by the slice t
abbrev pub window_of : Transfer → ℕ → ℕ → ℕ
window_of g u t = u * g.slices + t

-- the state to which a window leads if it is an edge: the window without its first slice
abbrev pub target : Transfer → ℕ → Option ℕ
target g number = cond (slice_index_or g.windows number false) (Some (number % g.states)) None

-- the state to which the edge from the state u by the slice t leads, if there is one
abbrev pub next_of : Transfer → ℕ → ℕ → Option ℕ
next_of g u t = cond (nat_lt u g.states && nat_lt t g.slices) (target g (window_of g u t)) None

-- the weight of a slice
abbrev pub weight_at : Transfer → ℕ → ℕ
weight_at g t = slice_index g.weights t

-- what holds of each transfer graph
pub record IsTransfer (g : Transfer) : Type 0 where
  pub windows : length g.windows ≡ g.states * g.slices
  pub weights : length g.weights ≡ g.slices
  pub some_state : 0 < g.states
  pub some_slice : 0 < g.slices
  pub few : g.states ≤ most_states
  pub small : g.states * g.slices ≤ most_windows
  -- the number of slices divides the number of states; so if an edge by the slice t leads to the state v, then t is v modulo g.slices
  pub divides : g.states % g.slices ≡ 0
  -- each slice is light; so a walk that passes each state at most once weighs at most 2^25
  pub light : (t : ℕ) → t < g.slices → g.states * weight_at g t ≤ 2 ^ 25
