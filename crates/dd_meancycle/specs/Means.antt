-- The cycles of a transfer graph, and what shows that the mean of a cycle is the least one. A cycle is a closed walk, given by its states. Its mean
-- is its weight divided by its number of edges.
use Rattle.std.specs.Prelude.{◌≡◌, ℕ, ◌+◌, ◌*◌, ◌%◌, ◌<◌, ◌≤◌, ℤ, pos, ◌-ℤ◌, ◌≤ℤ◌, unsigned_abs, List, [], ◌∷◌, length, slice_index, Some}
use Rattle.std.specs.Int.{IsGcd}
use Rattle.dd_values.specs.Bounds.{most_number}
use Rattle.dd_transfer.specs.{Graphs.Transfer, Graphs.next_of, Graphs.weight_at, Certificates.potential_of}
use Rattle.dd_meancycle.specs.declared.least.Mean.{Mean, TheVariants.Least, TheVariants.NoCycle}

-- a walk from u through these states to v: u has an edge to the first, each state has one to the next, and the last is v; if there are no states,
-- v is u
abbrev pub IsPath : Transfer → ℕ → List ℕ → ℕ → Type 0
IsPath g u [] v = u ≡ v
IsPath g u (s ∷ ss) v = (next_of g u (s % g.slices) ≡ Some s) × IsPath g s ss v

-- the weight of a walk whose edges lead to these states, one after another. An edge weighs what its slice weighs, and its slice is the last slice of
-- the state to which it leads. The number of a state's last slice is the state's number modulo the number of different slices.
abbrev pub weight_of : Transfer → List ℕ → ℕ
weight_of g [] = 0
weight_of g (s ∷ ss) = weight_at g (s % g.slices) + weight_of g ss

-- a cycle: there is at least one state, each state has an edge to the next, and the last has an edge to the first
pub record IsCycle (g : Transfer) (states : List ℕ) : Type 0 where
  pub last : ℕ
  pub closed : IsPath g last states last
  pub turns : 0 < length states

-- along each edge of weight w the potential rises by at most l * w - m
abbrev pub ArePotentials : Transfer → ℕ → ℕ → List ℤ → Type 0
ArePotentials g m l ps = (u t v : ℕ) → next_of g u t ≡ Some v → (potential_of ps v -ℤ potential_of ps u) ≤ℤ (pos (l * weight_at g t) -ℤ pos m)

-- along each edge the rank falls
abbrev pub AreRanks : Transfer → List ℕ → Type 0
AreRanks g ranks = (u t v : ℕ) → next_of g u t ≡ Some v → slice_index ranks v < slice_index ranks u

-- The cycle's mean is m / l in lowest terms, and the potentials show that no cycle has a smaller mean. The cycle has at most as many states as the
-- graph, and each potential is at most `most_number` in absolute value.
pub record IsLeastMeanCycle (g : Transfer) (m l : ℕ) (cycle : List ℕ) (ps : List ℤ) : Type 0 where
  pub cycle_is : IsCycle g cycle
  pub short : length cycle ≤ g.states
  pub mean : weight_of g cycle * l ≡ m * length cycle
  pub lowest : IsGcd m l 1
  pub positive : 0 < l
  pub each : length ps ≡ g.states
  pub potentials : ArePotentials g m l ps
  pub bounded : (v : ℕ) → v < g.states → unsigned_abs (potential_of ps v) ≤ most_number
  pub least : (states : List ℕ) → IsCycle g states → m * length states ≤ l * weight_of g states

-- the ranks show that there is no cycle
pub record IsAcyclic (g : Transfer) (ranks : List ℕ) : Type 0 where
  pub each : length ranks ≡ g.states
  pub ranks_fall : AreRanks g ranks
  pub none : (states : List ℕ) → IsCycle g states → ⊥

-- what `least_mean` gives: a cycle of least mean with potentials, or ranks
abbrev pub IsMeanOf : Transfer → Mean → Type 0
IsMeanOf g (Least m l cycle ps) = IsLeastMeanCycle g m l cycle ps
IsMeanOf g (NoCycle ranks) = IsAcyclic g ranks
