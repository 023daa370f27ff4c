-- The clauses of a question use only their own variables: further variables change nothing.
use Rattle.std.proofs.Common.{◌≡◌, ℕ, suc, ◌+◌, ◌*◌, ◌≤◌, Bool, true, List, [], ◌∷◌, length, refl, sym, ◌∙◌, arith}
use Rattle.std.proofs.lemmas.{Bool.and_parts, List.Folds.list_all-append}
use Rattle.dd_clause.specs.Clauses.{is_clause_true}
use Rattle.dd_circuit.specs.{declared.gates.Gate.Gate, Circuits.AreGates, Circuits.agrees}
use Rattle.dd_circuit.specs.lemmas.ValueLaws.{Alike, gate_value-alike}
use Rattle.dd_cnf.specs.Models.{is_satisfied}
use Rattle.dd_formula.specs.LocalRule.{LocalRule}
use Rattle.dd_boxes.specs.Goals.{GoalOf}
use Rattle.dd_problem.specs.{Layouts.Layout, Clauses.input, Clauses.cell_clauses, Clauses.part_gates, Clauses.part_clauses}
use Rattle.dd_problem.specs.{Problems.problem_parts, Problems.problem_clauses, Problems.problem, Problems.input_count, Symbols.AreRead}
use Rattle.dd_problem.specs.lemmas.Parts.{tests, parts_law}
use Rattle.dd_problem.specs.lemmas.Reading.{IsWired, read_symbols, problem_read}
use Rattle.dd_problem.specs.lemmas.Writing.{problem_gates, gates_fit, satisfied_by, input_in_range}

-- gates that agree with an assignment agree with every assignment that has the same values on the first n variables and on the gates' own
pub agrees_alike : (set other : ℕ → Bool) (gs : List Gate) (n : ℕ) → Alike (n + length gs) other set → AreGates n gs → agrees other n gs ≡ agrees set n gs
agrees_alike set other [] n same ok = refl
agrees_alike set other (g ∷ gs) n same ok =
    rw (
      same (suc n) (omega arith) (omega arith),
      gate_value-alike n other set (λ k p q. same k p (omega arith)) g ok.0,
      agrees_alike set other gs (suc n) (λ k p q. same k p (omega arith)) ok.1,
    ) refl

pub read_alike : (set other : ℕ → Bool) (n m c : ℕ) (ss : List ℕ) → Alike n other set → length ss ≡ c → c * m ≤ n → AreRead set m ss → AreRead other m ss
read_alike set other n m c ss same full few read k s h l =
    let there = input_in_range k s m c (omega arith) l in
    same (input m k s) there.0 (omega (arith, there.1)) ∙ read k s h l

pub satisfied_alike : (set other : ℕ → Bool) (l : Layout) (x : LocalRule) (g : GoalOf) → IsWired l x g → Alike (problem l x g).variables other set →
    is_satisfied set (problem_clauses l x g) ≡ true → is_satisfied other (problem_clauses l x g) ≡ true
satisfied_alike set other l x g wired same ok =
    let m = x.symbols in
    let n = input_count l x in
    let ps = problem_parts l x g in
    let ss = read_symbols set m (length l.places) in
    let read = problem_read set l x g wired ok in
    let both =
    and_parts (is_satisfied set (cell_clauses x l.places)) (is_satisfied set (part_clauses n ps)) (sym (list_all-append (is_clause_true set) (cell_clauses x l.places) (part_clauses n ps)) ∙ ok) in
    let agree = and_parts (agrees set n (part_gates n ps)) (tests set n ps) (sym (parts_law set n ps) ∙ both.1) in
    satisfied_by l x g wired ss read.0 other (read_alike set other (problem l x g).variables m (length l.places) ss same read.0.symbols_fit.as_many (omega arith) read.1)
    (agrees_alike set other (problem_gates l x g) n same (gates_fit l x g wired) ∙ agree.0)
