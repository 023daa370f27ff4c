-- The upper bound on the number of a question's clauses is at least the number of its variables, and at least the number of positions of its box or
-- torus.
use Rattle.std.proofs.Common.{◌≡◌, ℕ, zero, suc, ◌+◌, ◌*◌, ◌/◌, ◌%◌, ◌<◌, ◌≤◌, [], ◌∷◌, map, length, ap, ◌∙◌, arith, length-append}
use Rattle.std.proofs.{Math.Nat.mul-add, Math.Nat.mul_assoc, lemmas.Nat.mul-le, lemmas.Nat.mod_below, lemmas.Nat.div-add-mod'}
use Rattle.std.specs.{Prelude.◌-◌, List.filter}
use Rattle.dd_lattice.specs.Boxes.{Bounds, volume}
use Rattle.dd_expansion.specs.Leaves.{total}
use Rattle.dd_formula.specs.{LocalRule.LocalRule, Counts.rule_clauses, Counts.cell_clause_count, Counts.disallowed_pairs}
use Rattle.dd_boxes.specs.{Goals.GoalOf, Counts.question_clauses}
use Rattle.dd_problem.specs.{Layouts.Layout, Layouts.cells_in, Layouts.fits_in, Clauses.part_gates}
use Rattle.dd_problem.specs.Problems.{premise_part, goal_part, input_count, problem}
use Rattle.dd_problem.specs.lemmas.{Growing.part_gates-append, CellOrder.length-cells_in}
use Rattle.dd_problem.specs.lemmas.GateCounts.{at_cell, premise_gates, goal_gates}
use Rattle.dd_problem.specs.lemmas.CellTotals.{cells_total}

half : (n : ℕ) → n / 2 * 2 + n % 2 ≡ n
half n = div-add-mod' n 2

-- a cell has at least as many clauses as inputs
symbols_below : (s : ℕ) → s ≤ cell_clause_count s
symbols_below zero = omega arith
symbols_below (suc zero) = omega arith
symbols_below (suc (suc t)) =
    let n : ℕ = suc (suc t) * (suc (suc t) - 1) in
    let least : suc (suc t) * 1 ≤ n = mul-le (suc (suc t)) 1 (suc (suc t)) (suc (suc t) - 1) (omega arith) (omega arith) in
    let least' : 2 * suc t ≤ n = (let one = mul-le 2 (suc t) (suc (suc t)) (suc (suc t) - 1) (omega arith) (omega arith) in omega (arith, one)) in
    let rest : n % 2 < 2 = mod_below n 2 (omega arith) in
    let whole = half n in
    omega (arith, least', rest, whole)

-- the number of variables is at most the upper bound on the number of clauses
pub variables_below : (l : Layout) (x : LocalRule) (g : GoalOf) (b : Bounds) → l.places ≡ cells_in b x.nodes → (problem l x g).variables ≤ question_clauses x g (volume b)
variables_below l x g b places =
    let v = volume b in
    let n = input_count l x in
    let ps = map (premise_part l x) (filter (fits_in l x) l.places) in
    let split = ap length (part_gates-append n ps (goal_part l x.symbols g ∷ [])) ∙ length-append (part_gates n ps) (part_gates (n + length (part_gates n ps)) (goal_part l x.symbols g ∷ [])) in
    let premise = premise_gates l x (fits_in l x) l.places n in
    let cells = ap (λ ds. total (map (at_cell x) ds)) places ∙ cells_total x b x.nodes in
    let goal = goal_gates l x.symbols g (n + length (part_gates n ps)) in
    let count = ap length places ∙ length-cells_in b x.nodes in
    let inputs : n ≡ v * x.nodes * x.symbols = ap (λ k. k * x.symbols) count in
    let fewer : v * x.nodes * x.symbols ≤ v * x.nodes * cell_clause_count x.symbols = mul-le (v * x.nodes) x.symbols (v * x.nodes) (cell_clause_count x.symbols) (omega arith) (symbols_below x.symbols) in
    let turned : v * x.nodes * cell_clause_count x.symbols ≡ v * (x.nodes * cell_clause_count x.symbols) = mul_assoc v x.nodes (cell_clause_count x.symbols) in
    let spread = mul-add v (x.nodes * cell_clause_count x.symbols + disallowed_pairs x) (rule_clauses x) in
    let more = mul-add v (x.nodes * cell_clause_count x.symbols) (disallowed_pairs x) in
    omega (arith, split, premise, cells, goal, inputs, fewer, turned, spread, more)

-- the number of positions is at most the upper bound on the number of clauses
pub positions_below : (x : LocalRule) (g : GoalOf) (v : ℕ) → 1 ≤ x.nodes → v ≤ question_clauses x g v
positions_below x g v some =
    let spread = mul-add v (x.nodes * cell_clause_count x.symbols + disallowed_pairs x) (rule_clauses x) in
    let more = mul-add v (x.nodes * cell_clause_count x.symbols) (disallowed_pairs x) in
    let one : 1 * 1 ≤ x.nodes * cell_clause_count x.symbols = mul-le 1 1 x.nodes (cell_clause_count x.symbols) some (omega arith) in
    let least : v * 1 ≤ v * (x.nodes * cell_clause_count x.symbols) = mul-le v 1 v (x.nodes * cell_clause_count x.symbols) (omega arith) (omega (arith, one)) in
    omega (arith, spread, more, least)
