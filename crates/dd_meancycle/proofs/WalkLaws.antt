-- What potentials say about every walk.
use Rattle.std.proofs.Common.{◌≡◌, ℕ, ◌+◌, ◌*◌, ◌<◌, ◌≤◌, List, [], ◌∷◌, ◌++◌, length, arith, refl, sym, ap, ◌∙◌, subst}
use Rattle.std.specs.List.{Contains}
use Rattle.dd_meancycle.specs.declared.edges.Edge.{Edge}
use Rattle.dd_meancycle.specs.table.Walks.{IsWalk, AreAmong, edges_weight, natural_potential, AreEdgePotentials}

-- l times the weight of a walk of j edges is at least m * j plus the rise of the potential from the walk's start to the walk's end
pub walk_weighs : (edges : List Edge) (m l : ℕ) (ps : List ℕ) → AreEdgePotentials edges m l ps →
    (es : List Edge) (u v : ℕ) → AreAmong edges es → IsWalk u es v →
    natural_potential ps v + m * length es ≤ natural_potential ps u + l * edges_weight es
walk_weighs edges m l ps given [] u v among walk = rw walk (omega arith)
walk_weighs edges m l ps given (e ∷ es) u v among walk =
    let first : natural_potential ps e.to + m ≤ natural_potential ps u + l * e.weight = subst (λ (x : ℕ). natural_potential ps e.to + m ≤ natural_potential ps x + l * e.weight) walk.0 (given e among.0) in
    let rest = walk_weighs edges m l ps given es e.to v among.1 walk.1 in
    omega arith

pub cycle_weighs : (edges : List Edge) (m l : ℕ) (ps : List ℕ) → AreEdgePotentials edges m l ps →
    (es : List Edge) (u : ℕ) → AreAmong edges es → IsWalk u es u → m * length es ≤ l * edges_weight es
cycle_weighs edges m l ps given es u among walk = omega (arith, walk_weighs edges m l ps given es u u among walk)
