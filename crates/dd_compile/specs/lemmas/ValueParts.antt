-- How the gates of an automaton's value are made from those of its parts' values, and a bound on the number of these gates.
use Rattle.std.proofs.Common.{◌≡◌, ◌≤◌, ℕ, ◌+◌, List, [], ◌∷◌, map, length, ap, sym, ◌∙◌, arith, length-append}
use Rattle.dd_lattice.specs.{Cells.shifted, InOrder.in_order, Place.Place, declared.position.Cell.Cell}
use Rattle.dd_expansion.specs.Leaves.{total}
use Rattle.dd_formula.specs.LocalRule.{LocalRule, expansion_at}
use Rattle.dd_formula.specs.Automata.{Counted, counted, counted_step, cells_of}
use Rattle.dd_formula.specs.ValueCounts.{Valued, value_clauses, given_clauses, case_clauses}
use Rattle.dd_formula.specs.declared.automaton.Automaton.{Automaton}
use Rattle.dd_formula.specs.declared.automaton.Cases.{Cases}
use Rattle.dd_formula.specs.declared.automaton.Automaton.TheFolds.{fold-Automaton, fold-roll-Automaton}
use Rattle.dd_formula.specs.declared.automaton.Automaton.TheOpen.{Automaton-F}
use Rattle.dd_formula.specs.lemmas.AutomatonLaws.{counted_given, counted_composed}
use Rattle.dd_formula.specs.lemmas.ValuedLaws.{by_forms, valued_given, valued_composed, valued_counts}
use Rattle.dd_compile.specs.Wiring.{Wiring, with_cell}
use Rattle.dd_compile.specs.Compiling.{AllMade, certain, compiled, wires_near}
use Rattle.dd_compile.specs.ValueGates.{ValueMaker, Gated, gated_step, rules_made, given_made, inner_made, composed_made, value_made}
use Rattle.dd_compile.specs.lemmas.{MadeCount.made_count, FewGates.gates_below, ChoiceLaws.choices_length}
use Rattle.dd_compile.specs.lemmas.CaseRules.{value_length, rules_length}
use Rattle.dd_formula.specs.declared.automaton.Automaton.TheVariants as v

abbrev gated : ℕ → Automaton → Gated
gated k = fold-Automaton Gated (gated_step k)

gated_given : (k : ℕ) (c : Cases) → gated k (v.Given c) ≡ gated_step k (Automaton-F.Given c)
gated_given k c = ap (gated k) (sym (v.rolls-Given c)) ∙ fold-roll-Automaton Gated (gated_step k) (Automaton-F.Given c)

gated_composed : (k : ℕ) (f g : Automaton) → gated k (v.Composed f g) ≡ gated_step k (Automaton-F.Composed (gated k f) (gated k g))
gated_composed k f g = ap (gated k) (sym (v.rolls-Composed f g)) ∙ fold-roll-Automaton Gated (gated_step k) (Automaton-F.Composed f g)

-- the fold that makes the gates has the same counts (the cells that are read, instances and depth) as `counted`
gated_counts : (k : ℕ) (f : Automaton) → (gated k f).counts ≡ counted f
gated_counts k =
    by_forms (λ f. (gated k f).counts ≡ counted f) (λ c. ap (λ (x : Gated). x.counts) (gated_given k c) ∙ sym (counted_given c))
    (λ f g first second.
    ap (λ (x : Gated). x.counts) (gated_composed k f g)
    ∙ (ap (λ (x : Counted). counted_step (Automaton-F.Composed x (gated k g).counts)) first
    ∙ (ap (λ (x : Counted). counted_step (Automaton-F.Composed (counted f) x)) second ∙ sym (counted_composed f g))))

-- the gates of the value of an automaton that is given by cases
pub made_given : (k : ℕ) (c : Cases) (w : Wiring) (at : Cell) (n : ℕ) → value_made k (v.Given c) w at n ≡ given_made k c w at n
made_given k c w at n = ap (λ (x : Gated). x.made w at n) (gated_given k c)

-- the gates of the value of a composition
pub made_composed : (k : ℕ) (f g : Automaton) (w : Wiring) (at : Cell) (n : ℕ) → value_made k (v.Composed f g) w at n ≡ composed_made (cells_of f at.node) (value_made k f) (value_made k g) w at n
made_composed k f g w at n =
    ap (λ (x : Gated). x.made w at n) (gated_composed k f g)
    ∙ ap (λ (x : Counted). composed_made (in_order (x.reads at.node)) (value_made k f) (value_made k g) w at n) (gated_counts k f)

-- The number of gates is at most the number of clauses that `value_clauses` counts.
abbrev AreFew : ℕ → Automaton → Type 0
AreFew k f = (w : Wiring) (at : Cell) (n : ℕ) → length (value_made k f w at n).gates ≤ value_clauses k f at.node

few_rules : (w : Wiring) (at : Cell) (cases : List (LocalRule × ℕ)) (n : ℕ) → length (rules_made w at cases n).gates ≤ case_clauses cases at.node
few_rules w at [] n = omega arith
few_rules w at (case ∷ cases) n =
    let e = expansion_at case.0 at.node in
    let one = compiled w at.position e n in
    let rest = few_rules w at cases (n + length one.gates) in
    let count = made_count e (certain (wires_near w at.position)) n in
    let below = gates_below e in
    let both = length-append one.gates (rules_made w at cases (n + length one.gates)).gates in
    omega (arith, rest, count, below, both)

few_given : (k : ℕ) (c : Cases) → AreFew k (v.Given c)
few_given k c w at n =
    let rules = few_rules w at c.cases n in
    let all = value_length k c w at n in
    let made = ap (λ (m : AllMade). length m.gates) (made_given k c w at n) in
    let chosen = choices_length [] (rules_made w at c.cases n).signals in
    let many = rules_length w at c.cases n in
    let clauses : value_clauses k (v.Given c) at.node ≡ given_clauses k c at.node = ap (λ (x : Valued). x.clauses at.node) (valued_given k c) in
    omega (arith, rules, all, made, chosen, many, clauses)

few_inner : (g : ValueMaker) (most : ℕ → ℕ) → ((w : Wiring) (at : Cell) (n : ℕ) → length (g w at n).gates ≤ most at.node) → (w values : Wiring) (p : Place) (cs : List Cell) (n : ℕ) →
    length (inner_made g w values (map (shifted p) cs) n).gates ≤ total (map (λ c. most c.node) cs)
few_inner g most few w values p [] n = omega arith
few_inner g most few w values p (c ∷ cs) n =
    let one = g w (shifted p c) n in
    let here = few w (shifted p c) n in
    let more = with_cell values (shifted p c) one.signals in
    let rest = few_inner g most few w more p cs (n + length one.gates) in
    let both = length-append one.gates (inner_made g w more (map (shifted p) cs) (n + length one.gates)).gates in
    omega (arith, here, rest, both)

composed_length : (k : ℕ) (f g : Automaton) (w : Wiring) (at : Cell) (n : ℕ) →
    let inner = inner_made (value_made k g) w (record { cells = []; signals = [] }) (map (shifted at.position) (cells_of f at.node)) n in
    length (value_made k (v.Composed f g) w at n).gates ≡ length inner.gates + length (value_made k f inner.wiring at (n + length inner.gates)).gates
composed_length k f g w at n =
    let inner = inner_made (value_made k g) w (record { cells = []; signals = [] }) (map (shifted at.position) (cells_of f at.node)) n in
    ap (λ (m : AllMade). length m.gates) (made_composed k f g w at n) ∙ length-append inner.gates (value_made k f inner.wiring at (n + length inner.gates)).gates

few_composed : (k : ℕ) (f g : Automaton) → AreFew k f → AreFew k g → AreFew k (v.Composed f g)
few_composed k f g first second w at n =
    let reads = cells_of f at.node in
    let none : Wiring = record { cells = []; signals = [] } in
    let inner = inner_made (value_made k g) w none (map (shifted at.position) reads) n in
    let inside = few_inner (value_made k g) (value_clauses k g) second w none at.position reads n in
    let outside = first inner.wiring at (n + length inner.gates) in
    let all = composed_length k f g w at n in
    let clauses : value_clauses k (v.Composed f g) at.node ≡ total (map (λ c. value_clauses k g c.node) reads) + value_clauses k f at.node =
    ap (λ (x : Valued). x.clauses at.node) (valued_composed k f g)
    ∙ ap (λ (x : Counted). total (map (λ (c : Cell). value_clauses k g c.node) (in_order (x.reads at.node))) + value_clauses k f at.node) (valued_counts k f) in
    omega (arith, inside, outside, all, clauses)

pub few_gates : (k : ℕ) (f : Automaton) → AreFew k f
few_gates k = by_forms (AreFew k) (few_given k) (few_composed k)
