-- How many clauses encode the value of an automaton, and how many say that two automata differ. The value is computed by gates over signals. A signal
-- is a variable of a circuit, or its negation.
use Rattle.std.specs.{Prelude.ℕ, Prelude.◌+◌, Prelude.◌*◌, Prelude.List, Prelude.map, Prelude.length, List.range_with_len}
use Rattle.dd_lattice.specs.InOrder.{in_order}
use Rattle.dd_expansion.specs.Leaves.{clause_count, total}
use Rattle.dd_formula.specs.{LocalRule.LocalRule, LocalRule.expansion_at, Automata.Counted, Automata.counted_step}
use Rattle.dd_formula.specs.declared.automaton.{Automaton.Automaton, Cases.Cases}
use Rattle.dd_formula.specs.declared.automaton.Automaton.{TheFolds.fold-Automaton, TheOpen.Automaton-F}

-- the number of clauses of an and-gate or an or-gate over k signals
abbrev pub gate_clause_count : ℕ → ℕ
gate_clause_count k = k + 1

-- The number of clauses of the gates that choose among m cases. Each case has a gate over one signal for its own rule and one signal for each earlier
-- rule. The gate says that the case's rule is true and no earlier rule is. The default symbol has a gate over one signal for each rule. This gate
-- says that no rule is true.
abbrev pub choice_clauses : ℕ → ℕ
choice_clauses m = total (map (λ i. gate_clause_count (i + 1)) (range_with_len 0 m)) + gate_clause_count m

-- The number of clauses of the gates of n symbols, for m cases. Each symbol has a gate over the cases that give it; here the
-- default counts as one more case. Each of these m + 1 cases gives one symbol, so together the gates are over m + 1 signals.
abbrev pub giving_clauses : ℕ → ℕ → ℕ
giving_clauses n m = (m + 1) + n

-- the number of clauses of the rules of the cases at a node
abbrev pub case_clauses : List (LocalRule × ℕ) → ℕ → ℕ
case_clauses cases a = total (map (λ case. clause_count (expansion_at case.0 a)) cases)

-- the number of clauses of the value, at a node, of an automaton that is given by cases, over n symbols
abbrev pub given_clauses : ℕ → Cases → ℕ → ℕ
given_clauses n c a = case_clauses c.cases a + choice_clauses (length c.cases) + giving_clauses n (length c.cases)

-- the counts of an automaton (the cells that it reads, its instances and its depth), and the number of clauses of its value
pub record Valued : Type 0 where
  pub counts : Counted
  -- the number of clauses of its value at a node
  pub clauses : ℕ → ℕ

abbrev pub valued_step : ℕ → Automaton-F Valued → Valued
valued_step n (Automaton-F.Given c) =
    record { counts = counted_step (Automaton-F.Given c); clauses = given_clauses n c }
valued_step n (Automaton-F.Composed f g) =
    record {
      counts = counted_step (Automaton-F.Composed f.counts g.counts);
      -- the clauses of the second automaton's value at each cell that the first reads, and then those of the first automaton's value
      clauses = λ a. total (map (λ c. g.clauses c.node) (in_order (f.counts.reads a))) + f.clauses a;
    }

-- the number of clauses of an automaton's value at a node, over n symbols
abbrev pub value_clauses : ℕ → Automaton → ℕ → ℕ
value_clauses n f = (fold-Automaton Valued (valued_step n) f).clauses

-- the number of clauses that say whether two automata differ at a node: those of both values; for each symbol, those of a gate over two signals; and
-- those of a gate over all these gates
abbrev pub differ_at : ℕ → Automaton → Automaton → ℕ → ℕ
differ_at n f g a = value_clauses n f a + value_clauses n g a + n * gate_clause_count 2 + gate_clause_count n

-- the number of clauses that say that two automata differ at one of the first `nodes` nodes: those for each of these nodes, and
-- one that says that the automata differ at some node
abbrev pub differ_clauses : ℕ → ℕ → Automaton → Automaton → ℕ
differ_clauses n nodes f g = total (map (differ_at n f g) (range_with_len 0 nodes)) + 1
