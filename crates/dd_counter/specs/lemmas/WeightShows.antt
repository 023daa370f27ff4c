-- The assignments that satisfy the clauses of `weight_problem` stand for exactly the living configurations that are light.
use Rattle.std.proofs.Common.{◌≡◌, ℕ, ◌*◌, ◌≤◌, List, length, refl, ap, arith, subst, sym}
use Rattle.dd_pattern.specs.{declared.periods.Periods.Periods, Periods.periods_volume}
use Rattle.dd_formula.specs.LocalRule.{LocalRule, IsRule}
use Rattle.dd_boxes.specs.{Goals.always, TorusPeriods.AreTorusPeriods}
use Rattle.dd_problem.specs.{Layouts.torus_cells, Problems.torus_problem, lemmas.TorusLayout.length-torus_cells}
use Rattle.dd_problem.specs.lemmas.TorusShows.{torus_shows, torus_alike}
use Rattle.dd_counter.specs.{Weights.weight_problem, Weights.ShowsWeights, lemmas.Shown.weighed_shows}

-- the inputs are variables of the torus's clauses
pub inputs_within : (x : LocalRule) (p : Periods) (m : ℕ) → IsRule x → AreTorusPeriods x.dimension x.nodes p → m ≡ x.symbols → periods_volume p * x.nodes * m ≤ (torus_problem x always p).variables
inputs_within x p m rule ok same =
    let cells : length (torus_cells x p) * x.symbols ≡ periods_volume p * x.nodes * x.symbols = ap (λ n. n * x.symbols) (length-torus_cells x p rule ok) in
    subst (λ k. periods_volume p * x.nodes * k ≤ (torus_problem x always p).variables) (sym same) (omega (arith, cells))

pub weight_shows : (x : LocalRule) (p : Periods) (ws : List ℕ) (below : ℕ) → IsRule x → AreTorusPeriods x.dimension x.nodes p → length ws ≡ x.symbols →
    ShowsWeights (weight_problem x p ws below).clauses x p ws below
weight_shows x p ws below rule ok same =
    weighed_shows (torus_problem x always p) x p ws below (periods_volume p * x.nodes)
    (record {
      shows = torus_shows x always p rule tt ok tt;
      own = torus_alike x always p rule tt ok tt;
      cells = refl;
      weights = same;
      inputs = inputs_within x p (length ws) rule ok same;
    })
