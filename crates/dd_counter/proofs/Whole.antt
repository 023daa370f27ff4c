-- The whole list: the clauses of the torus, the counter, and the last clause.
use Rattle.std.proofs.Common.{◌≡◌, ℕ, suc, ◌*◌, ◌≤◌, List, [], ◌++◌, length, refl, ap, sym, subst, ◌∙◌, arith}
use Rattle.std.proofs.lemmas.{List.append-nil, Nat.mul-le, Option.slice_get_past}
use Rattle.std.specs.Prelude.{◌-◌, ◌^◌}
use Rattle.dd_clause.specs.{Clauses.ClauseList, declared.clause.Literal.Literal}
use Rattle.dd_circuit.specs.declared.gates.Signal.{Signal}
use Rattle.dd_lattice.specs.Boxes.{volume}
use Rattle.dd_pattern.specs.{declared.periods.Periods.Periods, Periods.ArePeriodsIn, Periods.periods_volume, Tile.fundamental}
use Rattle.dd_pattern.specs.lemmas.TileLaws.{span_is}
use Rattle.dd_formula.specs.LocalRule.{LocalRule, IsRule}
use Rattle.dd_boxes.specs.{Goals.always, Counts.question_clauses, TorusPeriods.AreTorusPeriods}
use Rattle.dd_problem.specs.{Problems.torus_problem, pushing.Near.torus_layout, lemmas.Counting.variables_below}
use Rattle.dd_problem.specs.lemmas.TorusLayout.{product_turned}
use Rattle.dd_counter.specs.Counter.{rows, grown, refusal_of, last_refused, weighed}
use Rattle.dd_counter.specs.{Weights.weight_problem, Weights.weight_count, Weights.ShowsWeights, lemmas.Counted.rows_count}
use Rattle.dd_counter.specs.lemmas.WeightShows.{inputs_within, weight_shows}
use Rattle.dd_cnf.specs.lemmas.ModelLaws.{same_list}

volume_is : (d : ℕ) (p : Periods) → ArePeriodsIn d p → volume (fundamental p) ≡ periods_volume p
volume_is d p ok = rw (span_is p.x ok.x_some, span_is p.y ok.y_some, span_is p.z ok.z_some) (product_turned p.x p.y p.z)

-- the inputs are variables of the torus's clauses
pub inputs_there : (x : LocalRule) (p : Periods) (ws : List ℕ) (cnf : ClauseList) (nodes : ℕ) → IsRule x → AreTorusPeriods x.dimension x.nodes p → length ws ≡ x.symbols → cnf ≡ torus_problem x always p →
    nodes ≡ x.nodes → periods_volume p * nodes * length ws ≤ cnf.variables
inputs_there x p ws cnf nodes rule ok same is known =
    subst (λ c. periods_volume p * nodes * length ws ≤ c.variables) (sym is)
    (subst (λ n. periods_volume p * n * length ws ≤ (torus_problem x always p).variables) (sym known) (inputs_within x p (length ws) rule ok same))

-- the list that was made has exactly the variables and the clauses of `weighed`
pub exactly : (base cnf now new : ClauseList) (ws : List ℕ) (below cells c : ℕ) (signals : List Signal) → cnf ≡ base → cells ≡ c → now ≡ grown cnf (rows ws below cells 0 [] cnf.variables).gates →
    signals ≡ (rows ws below cells 0 [] cnf.variables).signals → new.variables ≡ now.variables → new.clauses ≡ now.clauses ++ last_refused below signals →
    new ≡ weighed base ws below c
exactly base cnf now new ws below cells c signals is count made said wide last =
    let all = rows ws below cells 0 [] cnf.variables in
    same_list new (grown cnf all.gates).variables ((grown cnf all.gates).clauses ++ last_refused below all.signals) (wide ∙ ap (λ k. k.variables) made)
    (last ∙ (ap (λ k. k.clauses ++ last_refused below signals) made ∙ ap (λ xs. (grown cnf all.gates).clauses ++ last_refused below xs) said))
    ∙ (ap (λ k. weighed cnf ws below k) count ∙ ap (λ k. weighed k ws below c) is)

-- the list has the meaning that `ShowsWeights` states
pub shown : (x : LocalRule) (p : Periods) (ws : List ℕ) (below : ℕ) (new : ClauseList) → IsRule x → AreTorusPeriods x.dimension x.nodes p → length ws ≡ x.symbols → new ≡ weight_problem x p ws below →
    ShowsWeights new.clauses x p ws below
shown x p ws below new rule ok same exact = subst (λ k. ShowsWeights k.clauses x p ws below) (sym exact) (weight_shows x p ws below rule ok same)

-- if there is no signal at `below` - 1, no clause is added
pub no_refusal : (signals : List Signal) (below at : ℕ) (clauses : List (List Literal)) → at ≡ below - 1 → length signals ≤ at → clauses ≡ clauses ++ last_refused below signals
no_refusal signals below at clauses is past =
    sym (append-nil clauses) ∙ ap (λ r. clauses ++ refusal_of r) (sym (slice_get_past signals (below - 1) (subst (λ k. length signals ≤ k) is past)))

pub few_there : (base cnf : ClauseList) (ws : List ℕ) (below cells c most : ℕ) → cnf ≡ base → cells ≡ c → (weighed base ws below c).variables ≤ most →
    (grown cnf (rows ws below cells 0 [] cnf.variables).gates).variables ≤ most
few_there base cnf ws below cells c most is count few =
    subst (λ k. (weighed k ws below cells).variables ≤ most) (sym is) (subst (λ k. (weighed base ws below k).variables ≤ most) (sym count) few)

-- if `weight_count` is within its limit, so is the number of variables
pub enough : (d : ℕ) (x : LocalRule) (p : Periods) (ws : List ℕ) (below : ℕ) → ArePeriodsIn d p → weight_count x p ws below ≤ 2000000 → (weight_problem x p ws below).variables ≤ 2 ^ 24
enough d x p ws below ok few =
    let base = torus_problem x always p in
    let cells = periods_volume p * x.nodes in
    let first = variables_below (torus_layout x always p) x always (fundamental p) refl in
    let count = ap (question_clauses x always) (volume_is d p ok) in
    let gates = rows_count ws below cells 0 [] base.variables in
    let less = mul-le below (suc (length ws)) below (suc (4 * length ws)) (omega arith) (omega arith) in
    let all = mul-le cells (below * suc (length ws)) cells (below * suc (4 * length ws)) (omega arith) less in
    omega (arith, first, count, gates, all, few)
