-- The edges of a transfer graph as a list. A window is a state followed by a slice, and may be an edge. Its number is the state's number times the
-- number of different slices, plus the slice's number.
use Rattle.std.specs.Prelude.{◌≡◌, ℕ, ◌*◌, ◌/◌, ◌%◌, ◌<◌, List, map, slice_index, ℤ, pos, ◌-ℤ◌, ◌≤ℤ◌, Option, Some}
use Rattle.std.specs.{Option.option_map, List.Contains, List.All}
use Rattle.dd_transfer.specs.{Graphs.Transfer, Graphs.next_of, Graphs.weight_at, Certificates.potential_of}
use Rattle.dd_meancycle.specs.declared.{edges.Edge.Edge, table.EdgeMean.EdgeMean, least.Mean.Mean}
use Rattle.dd_meancycle.specs.declared.least.Mean.TheVariants.{Least, NoCycle}
use Rattle.dd_meancycle.specs.declared.table.EdgeMean.TheVariants as edge_mean

-- the window with this number as an edge, if it is one
abbrev pub edge_at : Transfer → ℕ → Option Edge
edge_at g number = option_map (λ v. record { from = number / g.slices; to = v; weight = weight_at g (number % g.slices) }) (next_of g (number / g.slices) (number % g.slices))

-- the list has exactly the graph's edges whose windows have numbers below n
pub record AreEdgesTo (g : Transfer) (n : ℕ) (edges : List Edge) : Type 0 where
  pub each : (e : Edge) → Contains edges e → (number : ℕ) × (number < n) × (edge_at g number ≡ Some e)
  pub all : (number : ℕ) (e : Edge) → number < n → edge_at g number ≡ Some e → Contains edges e

-- the list has exactly the graph's edges
abbrev pub AreEdges : Transfer → List Edge → Type 0
AreEdges g edges = AreEdgesTo g (g.states * g.slices) edges

-- along each edge of the list the potential rises by at most l * w - m, where w is the weight of the edge
abbrev pub ArePotentialsAlong : ℕ → ℕ → List ℤ → List Edge → Type 0
ArePotentialsAlong m l ps edges = All (λ e. (potential_of ps e.to -ℤ potential_of ps e.from) ≤ℤ (pos (l * e.weight) -ℤ pos m)) edges

-- along each edge of the list the rank falls
abbrev pub AreRanksAlong : List ℕ → List Edge → Type 0
AreRanksAlong ranks edges = All (λ e. slice_index ranks e.to < slice_index ranks e.from) edges

-- the two results are the same, but the second gives the cycle by the states to which its edges lead, and has signed potentials
abbrev pub IsInStates : EdgeMean → Mean → Type 0
IsInStates (edge_mean.Least m l cycle ps) (Least a b states qs) = (a ≡ m) × (b ≡ l) × (states ≡ map (λ e. e.to) cycle.items) × (qs ≡ map pos ps.items)
IsInStates (edge_mean.Least m l cycle ps) (NoCycle qs) = ⊥
IsInStates (edge_mean.NoCycle rs) (Least a b states qs) = ⊥
IsInStates (edge_mean.NoCycle rs) (NoCycle qs) = qs ≡ rs.items
