-- Bounds on reach: the reach of a rule or an automaton is at most k exactly when it reads only cells that lie at most k away.
use Rattle.std.proofs.Common.{◌≡◌, ℕ, zero, suc, ◌+◌, ◌<◌, ◌≤◌, Bool, true, List, [], ◌∷◌, refl, ap, sym, ◌∙◌, arith}
use Rattle.std.proofs.lemmas.Bool.{and_from, leb-true, le-leb, Decides.nat_tests}
use Rattle.std.proofs.lemmas.List.{Concat.flat_map-cons, Folds.list_all-append}
use Rattle.std.specs.{Prelude.◌&&◌, Prelude.nat_le, Prelude.max, List.list_all, List.flat_map, List.range_with_len}
use Rattle.dd_lattice.specs.{declared.position.Cell.Cell, lemmas.InOrderLaws.list_all-in_order}
use Rattle.dd_topology.specs.Topology.{extent}
use Rattle.dd_formula.specs.LocalRule.{LocalRule, IsRule, reads_at, cells_at}
use Rattle.dd_formula.specs.Automata.{counted, cells_of}
use Rattle.dd_formula.specs.Reach.{farthest, all_cells, reach, automaton_cells, automaton_reach}
use Rattle.dd_formula.specs.{declared.automaton.Automaton.Automaton, lemmas.AutomatonLaws.range_at}

-- the cell lies at most k away from the origin, along each axis
abbrev pub is_within : ℕ → Cell → Bool
is_within k c = nat_le (extent c.position) k

pub max_within : (a b k : ℕ) → nat_le (max a b) k ≡ (nat_le a k && nat_le b k)
max_within a b k = grind (arith, nat_tests)

none_far : (k : ℕ) → nat_le 0 k ≡ true
none_far k = grind (arith, nat_tests)

-- the farthest cell of a list lies at most k away exactly when all cells of the list do
all_within : (k : ℕ) (cs : List Cell) → nat_le (farthest cs) k ≡ list_all (is_within k) cs
all_within k [] = none_far k
all_within k (c ∷ cs) = max_within (extent c.position) (farthest cs) k ∙ ap (λ b. is_within k c && b) (all_within k cs)

-- a joined list passes a test exactly when each of its lists does
list_all-flat_map : {X Y : Type 0} (p : Y → Bool) (f : X → List Y) (xs : List X) → list_all p (flat_map f xs) ≡ list_all (λ x. list_all p (f x)) xs
list_all-flat_map p f [] = refl
list_all-flat_map p f (x ∷ xs) =
    ap (list_all p) (flat_map-cons f x xs)
    ∙ (list_all-append p (f x) (flat_map f xs) ∙ ap (λ b. list_all p (f x) && b) (list_all-flat_map p f xs))

-- a range passes a test if all numbers below its end do
pub all_numbers : (p : ℕ → Bool) (m n : ℕ) → ((k : ℕ) → k < m + n → p k ≡ true) → list_all p (range_with_len m n) ≡ true
all_numbers p m zero h = refl
all_numbers p m (suc n) h = and_from _ _ (h m (omega arith)) (all_numbers p (m + 1) n (λ k below. h k (omega arith)))

-- the reach of a rule is at most k exactly when at each node it reads only cells that lie at most k away
nodes_within : (r : LocalRule) (k : ℕ) → nat_le (reach r) k ≡ list_all (λ a. list_all (is_within k) (cells_at r a)) (range_with_len 0 r.nodes)
nodes_within r k = all_within k (all_cells r) ∙ list_all-flat_map (is_within k) (cells_at r) (range_with_len 0 r.nodes)

-- a rule whose reach is at most k reads only cells that lie at most k away
pub reads_within : (r : LocalRule) (k a : ℕ) → reach r ≤ k → a < r.nodes → list_all (is_within k) (reads_at r a) ≡ true
reads_within r k a far node =
    let all = sym (nodes_within r k) ∙ le-leb (reach r) k far in
    sym (list_all-in_order (is_within k) (reads_at r a))
    ∙ range_at (λ n. list_all (is_within k) (cells_at r n)) 0 r.nodes a all (omega arith) (omega (arith, node))

-- a rule that at each node reads only cells that lie at most k away has a reach of at most k
pub reach_within : (r : LocalRule) (k : ℕ) → ((a : ℕ) → a < r.nodes → list_all (is_within k) (reads_at r a) ≡ true) → reach r ≤ k
reach_within r k all =
    leb-true (reach r) k (nodes_within r k
    ∙ all_numbers (λ n. list_all (is_within k) (cells_at r n)) 0 r.nodes
    (λ a below. list_all-in_order (is_within k) (reads_at r a) ∙ all a (omega (arith, below))))

pub reach_near : (r : LocalRule) → IsRule r → reach r ≤ 16
reach_near r ok = reach_within r 16 ok.short

-- the reach of an automaton over the first n nodes is at most k exactly when at each of these nodes it reads only cells that lie at most k away
automaton_nodes : (f : Automaton) (n k : ℕ) → nat_le (automaton_reach n f) k ≡ list_all (λ a. list_all (is_within k) (cells_of f a)) (range_with_len 0 n)
automaton_nodes f n k = all_within k (automaton_cells n f) ∙ list_all-flat_map (is_within k) (cells_of f) (range_with_len 0 n)

pub automaton_reads_within : (f : Automaton) (n k a : ℕ) → automaton_reach n f ≤ k → a < n → list_all (is_within k) ((counted f).reads a) ≡ true
automaton_reads_within f n k a far node =
    let all = sym (automaton_nodes f n k) ∙ le-leb (automaton_reach n f) k far in
    sym (list_all-in_order (is_within k) ((counted f).reads a))
    ∙ range_at (λ b. list_all (is_within k) (cells_of f b)) 0 n a all (omega arith) (omega (arith, node))

pub automaton_reach_within : (f : Automaton) (n k : ℕ) → ((a : ℕ) → a < n → list_all (is_within k) ((counted f).reads a) ≡ true) → automaton_reach n f ≤ k
automaton_reach_within f n k all =
    leb-true (automaton_reach n f) k (automaton_nodes f n k
    ∙ all_numbers (λ a. list_all (is_within k) (cells_of f a)) 0 n
    (λ a below. list_all-in_order (is_within k) ((counted f).reads a) ∙ all a (omega (arith, below))))
