-- How far away the farthest cell of a list lies, as the list grows.
use Rattle.std.proofs.Common.{◌≡◌, ◌<◌, ◌≤◌, ◌+◌, ℕ, zero, suc, max, true, false, refl, List, [], ◌∷◌, ◌++◌, length, take, get_or, ap, sym, ◌∙◌, arith, rules}
use Rattle.std.proofs.lemmas.{Bool.and_parts, Bool.leb-true, List.take_more, List.append-nil}
use Rattle.std.proofs.lemmas.List.Concat.{flat_map-append, flat_map-cons}
use Rattle.std.specs.{List.list_all, List.flat_map, List.range_with_len, Ordering.nat_cmp, Ordering.ord_max}
use Rattle.dd_lattice.specs.{declared.position.Cell.Cell, InOrder.in_order, lemmas.InOrderLaws.list_all-in_order}
use Rattle.dd_topology.specs.Topology.{extent}
use Rattle.dd_formula.specs.LocalRule.{LocalRule, IsRule, is_near, reads_at, cells_at}
use Rattle.dd_formula.specs.Automata.{CommonNumbers, IsAutomaton, cells_of, has_rules}
use Rattle.dd_formula.specs.{declared.automaton.Automaton.Automaton, lemmas.AutomatonLaws.near_cells, lemmas.AutomatonLaws.uniform}
use Rattle.dd_formula.specs.{lemmas.Ranges.range_push, Reach.farthest, Reach.automaton_reach}

pub greater_is : (a b : ℕ) → ord_max nat_cmp a b ≡ max a b
greater_is a b = search rules

pub farthest-append : (cs ds : List Cell) → farthest (cs ++ ds) ≡ max (farthest cs) (farthest ds)
farthest-append [] ds = omega arith
farthest-append (c ∷ cs) ds = let rest = farthest-append cs ds in omega (arith, rest)

-- one more cell
pub cell_more : (cs : List Cell) (i old e new : ℕ) (c : Cell) → i < length cs → c ≡ get_or cs i c → e ≡ extent c.position → new ≡ ord_max nat_cmp old e →
    old ≡ farthest (take i cs) → new ≡ farthest (take (i + 1) cs)
cell_more cs i old e new c below here is greater so_far =
    let one : farthest (get_or cs i c ∷ []) ≡ e = (ap (λ d. farthest (d ∷ [])) (sym here) ∙ (omega arith)) ∙ sym is in
    let more : farthest (take (i + 1) cs) ≡ max (farthest (take i cs)) (farthest (get_or cs i c ∷ [])) =
    ap farthest (take_more cs i c below) ∙ farthest-append (take i cs) (get_or cs i c ∷ []) in
    greater ∙ (greater_is old e ∙ (omega (arith, one, more, so_far)))

-- the cells at one more node
pub node_more : (at : ℕ → List Cell) (n old e new : ℕ) (cells : List Cell) → cells ≡ at n → e ≡ farthest cells → new ≡ ord_max nat_cmp old e →
    old ≡ farthest (flat_map at (range_with_len 0 n)) → new ≡ farthest (flat_map at (range_with_len 0 (n + 1)))
node_more at n old e new cells is far greater so_far =
    let more : flat_map at (range_with_len 0 (n + 1)) ≡ flat_map at (range_with_len 0 n) ++ at n =
    ap (flat_map at) (range_push n)
    ∙ (flat_map-append at (range_with_len 0 n) (n ∷ []) ∙ ap (λ xs. flat_map at (range_with_len 0 n) ++ xs) (append-nil (at n))) in
    let both : farthest (flat_map at (range_with_len 0 (n + 1))) ≡ max (farthest (flat_map at (range_with_len 0 n))) (farthest (at n)) =
    ap farthest more ∙ farthest-append (flat_map at (range_with_len 0 n)) (at n) in
    let here : e ≡ farthest (at n) = far ∙ ap farthest is in
    greater ∙ (greater_is old e ∙ omega (arith, both, here, so_far))

-- cells within the limit on reach lie at most 16 away
pub near_farthest : (cs : List Cell) → list_all is_near cs ≡ true → farthest cs ≤ 16
near_farthest [] h = omega arith
near_farthest (c ∷ cs) h =
    let both = and_parts (is_near c) (list_all is_near cs) h in
    let here : extent c.position ≤ 16 = leb-true _ _ both.0 in
    let rest = near_farthest cs both.1 in
    omega (arith, here, rest)

pub rule_near : (r : LocalRule) (a : ℕ) → IsRule r → a < r.nodes → farthest (cells_at r a) ≤ 16
rule_near r a ok below = near_farthest (cells_at r a) (list_all-in_order is_near (reads_at r a) ∙ ok.short a below)

pub automaton_near : (s : CommonNumbers) (f : Automaton) (a : ℕ) → IsAutomaton s f → a < s.nodes → farthest (cells_of f a) ≤ 16
automaton_near s f a ok below = near_farthest (cells_of f a) (near_cells s f ok a below)

still_near : (a b new : ℕ) → new ≡ ord_max nat_cmp a b → a ≤ 16 → b ≤ 16 → new ≤ 16
still_near a b new is p q = let greater = greater_is a b in omega (arith, is, greater)

abbrev IsRadius : (ℕ → List Cell) → ℕ → ℕ → Type 0
IsRadius at n radius = (radius ≡ farthest (flat_map at (range_with_len 0 n))) × (radius ≤ 16)

-- one more node, whose cells are near
pub radius_more : (at : ℕ → List Cell) (n old e new : ℕ) (cells : List Cell) → cells ≡ at n → e ≡ farthest cells → new ≡ ord_max nat_cmp old e → farthest (at n) ≤ 16 →
    IsRadius at n old → IsRadius at (n + 1) new
radius_more at n old e new cells is far greater near so_far =
    let here : e ≡ farthest (at n) = far ∙ ap farthest is in
    (node_more at n old e new cells is far greater so_far.0, still_near old e new greater so_far.1 (omega (arith, here, near)))

-- if there is no cell at any node, the greatest distance is 0
nothing_at : (at : ℕ → List Cell) → ((a : ℕ) → at a ≡ []) → (m n : ℕ) → farthest (flat_map at (range_with_len m n)) ≡ 0
nothing_at at none m zero = refl
nothing_at at none m (suc n) = ap farthest (flat_map-cons at m (range_with_len (m + 1) n) ∙ ap (λ cs. cs ++ flat_map at (range_with_len (m + 1) n)) (none m)) ∙ nothing_at at none (m + 1) n

-- an automaton without rules reads nothing, so its reach is 0
pub bare_reach : (f : Automaton) (n : ℕ) → has_rules f ≡ false → automaton_reach n f ≡ 0
bare_reach f n none = nothing_at (cells_of f) (λ a. ap in_order ((uniform f none).0 a)) 0 n
