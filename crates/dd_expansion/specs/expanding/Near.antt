-- How far cells lie from the origin. The extent of a position is the greatest absolute value of its coordinates.
use Rattle.std.specs.{Prelude.ℕ, Prelude.◌≤◌, Prelude.List, List.All}
use Rattle.dd_lattice.specs.declared.position.Cell.{Cell}
use Rattle.dd_topology.specs.Topology.{extent}

-- no coordinate of these cells exceeds n in absolute value
abbrev pub AreNear : ℕ → List Cell → Type 0
AreNear n cs = All (λ c. extent c.position ≤ n) cs
