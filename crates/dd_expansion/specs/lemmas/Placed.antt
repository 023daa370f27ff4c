-- A formula whose variables stand for cells of Z^d reads only cells of Z^d.
use Rattle.std.proofs.Common.{◌≡◌, ◌<◌, ◌≤◌, ℕ, zero, suc, Bool, true, false, List, [], ◌∷◌, ◌++◌, map, length, cond, refl, ◌∙◌, Some, None, arith, ℤ, pos, ◌+ℤ◌, ◌-ℤ◌, unsigned_abs}
use Rattle.std.proofs.lemmas.Int.{ints}
use Rattle.std.proofs.lemmas.Bool.{and_parts, and_from, or_right, leb-true, lt-ltb}
use Rattle.std.proofs.lemmas.{Bool.Decides.Decides-int_eq, List.Folds.list_all-append}
use Rattle.std.specs.Prelude.{◌==◌, ◌&&◌, ◌||◌, Option, nat_lt, nat_le, slice_get}
use Rattle.std.specs.{List.list_all, List.find, List.flat_map, Option.option_map, Option.option_and_then, Option.option_to_list}
use Rattle.std.specs.Ordering.{int_eq}
use Rattle.dd_lattice.specs.{Place.Place, Place.moved, declared.position.Cell.Cell}
use Rattle.dd_topology.specs.{declared.edge.Edge.Edge, Grid.Grid, Grid.IsGrid, Grid.is_edge, Grid.is_offset}
use Rattle.dd_topology.specs.Topology.{end_of, start_of, reversed, leaves, step}
use Rattle.dd_topology.specs.Balls.{edge_ends, edge_starts, beside, neighbours, ball}
use Rattle.dd_expansion.specs.declared.formulas.{Term.Term, BallOf.BallOf, Formula.Formula}
use Rattle.dd_expansion.specs.declared.formulas.Formula.TheFolds.{fold-roll-Formula, ind-Formula, map-Formula}
use Rattle.dd_expansion.specs.lemmas.Claims.{Known, layer}
use Rattle.dd_expansion.specs.declared.formulas.Formula.TheOpen.{Formula-F}
use Rattle.dd_expansion.specs.Terms.{walk, cell_of, ball_round, balls_of, origin_at}
use Rattle.dd_expansion.specs.{Reads.Reading, Reads.both_cells, Reads.reads, Reads.reads_step, Placed.is_flat, Placed.is_placed}
use Rattle.dd_expansion.specs.lemmas.ListTests.{all_pass, list_all-flat_map, list_all-weaker}

-- along an axis past the dimension, coordinates are 0, and so are their sums
pub sum_is_zero : (x o : ℤ) → int_eq x (pos 0) ≡ true → int_eq o (pos 0) ≡ true → int_eq (x +ℤ o) (pos 0) ≡ true
sum_is_zero x o h h' =
    let a : x ≡ pos 0 = (Decides-int_eq x (pos 0)).0 h in
    let b : o ≡ pos 0 = (Decides-int_eq o (pos 0)).0 h' in
    let sum : x +ℤ o ≡ pos 0 = omega (arith, ints) in
    (Decides-int_eq (x +ℤ o) (pos 0)).1 sum

pub sum_on_axis : (used : Bool) (x o : ℤ) → (used || int_eq x (pos 0)) ≡ true → (used || int_eq o (pos 0)) ≡ true → (used || int_eq (x +ℤ o) (pos 0)) ≡ true
sum_on_axis true x o h h' = refl
sum_on_axis false x o h h' = sum_is_zero x o h h'

pub flat_moved : (d : ℕ) (p by : Place) → is_flat d p ≡ true → is_flat d by ≡ true → is_flat d (moved p by) ≡ true
flat_moved d p by h h' =
    let ps = and_parts (nat_lt 1 d || int_eq p.y (pos 0)) (nat_lt 2 d || int_eq p.z (pos 0)) h in
    let bys = and_parts (nat_lt 1 d || int_eq by.y (pos 0)) (nat_lt 2 d || int_eq by.z (pos 0)) h' in
    and_from _ _ (sum_on_axis (nat_lt 1 d) p.y by.y ps.0 bys.0) (sum_on_axis (nat_lt 2 d) p.z by.z ps.1 bys.1)

offset_on_axis : (used : Bool) (o : ℤ) → nat_le (unsigned_abs o) (cond used 4 0) ≡ true → (used || int_eq o (pos 0)) ≡ true
offset_on_axis true o h = refl
offset_on_axis false o h =
    let short : unsigned_abs o ≤ 0 = leb-true _ _ h in
    let none : o ≡ pos 0 = omega (arith, ints) in
    (Decides-int_eq o (pos 0)).1 none

reversed_on_axis : (used : Bool) (o : ℤ) → nat_le (unsigned_abs o) (cond used 4 0) ≡ true → (used || int_eq (pos 0 -ℤ o) (pos 0)) ≡ true
reversed_on_axis true o h = refl
reversed_on_axis false o h =
    let short : unsigned_abs o ≤ 0 = leb-true _ _ h in
    let none : pos 0 -ℤ o ≡ pos 0 = omega (arith, ints) in
    (Decides-int_eq (pos 0 -ℤ o) (pos 0)).1 none

-- both an offset p and its reversal are positions of Z^d
record Offsets (d : ℕ) (p : Place) : Type 0 where
  there : is_flat d p ≡ true
  back : is_flat d (reversed p) ≡ true

offsets_flat : (d : ℕ) (p : Place) → is_offset d p ≡ true → Offsets d p
offsets_flat d p h =
    let zs = and_parts (nat_le (unsigned_abs p.x) (cond (nat_lt 0 d) 4 0) && nat_le (unsigned_abs p.y) (cond (nat_lt 1 d) 4 0)) (nat_le (unsigned_abs p.z) (cond (nat_lt 2 d) 4 0)) h in
    let ys = and_parts (nat_le (unsigned_abs p.x) (cond (nat_lt 0 d) 4 0)) (nat_le (unsigned_abs p.y) (cond (nat_lt 1 d) 4 0)) zs.0 in
    record {
      there = and_from _ _ (offset_on_axis (nat_lt 1 d) p.y ys.1) (offset_on_axis (nat_lt 2 d) p.z zs.1);
      back = and_from _ _ (reversed_on_axis (nat_lt 1 d) p.y ys.1) (reversed_on_axis (nat_lt 2 d) p.z zs.1);
    }

get_passes : {X : Type 0} (p : X → Bool) (xs : List X) (i : ℕ) → list_all p xs ≡ true → list_all p (option_to_list (slice_get xs i)) ≡ true
get_passes p [] i h = refl
get_passes p (x ∷ xs) zero h = and_from _ _ (and_parts (p x) (list_all p xs) h).0 refl
get_passes p (x ∷ xs) (suc i) h = get_passes p xs i (and_parts (p x) (list_all p xs) h).1

find_passes : {X : Type 0} (p q : X → Bool) (xs : List X) → list_all p xs ≡ true → list_all p (option_to_list (find q xs)) ≡ true
find_passes p q [] h = refl
find_passes {X} p q (x ∷ xs) h = let both = and_parts (p x) (list_all p xs) h in by (q x) (find_passes p q xs both.1) both.0
  where
    by : (b : Bool) → list_all p (option_to_list (find q xs)) ≡ true → p x ≡ true → list_all p (option_to_list (cond b (Some x) (find q xs))) ≡ true
    by true rest here = and_from _ _ here refl
    by false rest here = rest

map_passes : {X Y : Type 0} (p : X → Bool) (q : Y → Bool) (f : X → Y) → ((x : X) → p x ≡ true → q (f x) ≡ true) → (o : Option X) → list_all p (option_to_list o) ≡ true →
    list_all q (option_to_list (option_map f o)) ≡ true
map_passes p q f each None h = refl
map_passes p q f each (Some x) h = and_from _ _ (each x (and_parts (p x) true h).0) refl

then_passes : {X Y : Type 0} (p : X → Bool) (q : Y → Bool) (f : X → Option Y) → ((x : X) → p x ≡ true → list_all q (option_to_list (f x)) ≡ true) → (o : Option X) → list_all p (option_to_list o) ≡ true →
    list_all q (option_to_list (option_and_then f o)) ≡ true
then_passes p q f each None h = refl
then_passes p q f each (Some x) h = each x (and_parts (p x) true h).0

cond_passes : (p : Cell → Bool) (b : Bool) (c : Cell) → p c ≡ true → list_all p (cond b (c ∷ []) []) ≡ true
cond_passes p true c h = and_from _ _ h refl
cond_passes p false c h = refl

abbrev Reached : List Edge → (Cell → Bool) → Formula → Type 0
Reached es p f = (env : List Cell) → list_all p env ≡ true → list_all p (reads es f env) ≡ true

-- suppose that each edge, followed in either direction, leads from cells that pass the test p to cells that pass it
module _ (es : List Edge) (p : Cell → Bool) (q : Edge → Bool) (edges : list_all q es ≡ true)
    (forth : (c : Cell) (e : Edge) → p c ≡ true → q e ≡ true → p (end_of c e) ≡ true)
    (back : (c : Cell) (e : Edge) → p c ≡ true → q e ≡ true → p (start_of c e) ≡ true) where
  step_passes : (c : Cell) (label : ℕ) → p c ≡ true → list_all p (option_to_list (step es c label)) ≡ true
  step_passes c label h = map_passes q p (end_of c) (λ e k. forth c e h k) (find (leaves c label) es) (find_passes q (leaves c label) es edges)

  walk_passes : (labels : List ℕ) (c : Cell) → p c ≡ true → list_all p (option_to_list (walk es c labels)) ≡ true
  walk_passes [] c h = and_from _ _ h refl
  walk_passes (label ∷ labels) c h = then_passes p p (λ d. walk es d labels) (λ d k. walk_passes labels d k) (step es c label) (step_passes c label h)

  cell_passes : (env : List Cell) (t : Term) → list_all p env ≡ true → list_all p (option_to_list (cell_of es env t)) ≡ true
  cell_passes env t h = then_passes p p (λ c. walk es c t.moves) (λ c k. walk_passes t.moves c k) (slice_get env t.variable) (get_passes p env t.variable h)

  beside_passes : (c : Cell) (e : Edge) → p c ≡ true → q e ≡ true → list_all p (beside c e) ≡ true
  beside_passes c e h k =
      list_all-append p (edge_ends c e) (edge_starts c e)
      ∙ and_from _ _ (cond_passes p (e.from == c.node) (end_of c e) (forth c e h k)) (cond_passes p (e.to == c.node) (start_of c e) (back c e h k))

  neighbours_pass : (c : Cell) → p c ≡ true → list_all p (neighbours es c) ≡ true
  neighbours_pass c h = list_all-flat_map p (beside c) es ∙ list_all-weaker q (λ e. list_all p (beside c e)) (λ e k. beside_passes c e h k) es edges

  ball_passes : (c : Cell) (r : ℕ) → p c ≡ true → list_all p (ball es c r) ≡ true
  ball_passes c zero h = and_from _ _ h refl
  ball_passes c (suc r) h =
      let near : list_all p (ball es c r) ≡ true = ball_passes c r h in
      list_all-append p (ball es c r) (flat_map (neighbours es) (ball es c r))
      ∙ and_from _ _ near
      (list_all-flat_map p (neighbours es) (ball es c r) ∙ list_all-weaker p (λ b. list_all p (neighbours es b)) (λ b k. neighbours_pass b k) (ball es c r) near)

  round_passes : (r : ℕ) (o : Option Cell) → list_all p (option_to_list o) ≡ true → list_all p (ball_round es r o) ≡ true
  round_passes r None h = refl
  round_passes r (Some c) h = ball_passes c r (and_parts (p c) true h).0

  pub balls_pass : (env : List Cell) (bs : List BallOf) → list_all p env ≡ true → list_all p (balls_of es env bs) ≡ true
  balls_pass env bs h =
      list_all-flat_map p (λ b. ball_round es b.radius (slice_get env b.variable)) bs
      ∙ all_pass (λ b. list_all p (ball_round es b.radius (slice_get env b.variable))) (λ b. round_passes b.radius (slice_get env b.variable) (get_passes p env b.variable h)) bs

  both_pass : (o o' : Option Cell) → list_all p (option_to_list o) ≡ true → list_all p (option_to_list o') ≡ true → list_all p (both_cells o o') ≡ true
  both_pass None o' h h' = refl
  both_pass (Some c) None h h' = refl
  both_pass (Some c) (Some d) h h' = and_from _ _ (and_parts (p c) true h).0 h'

  all_pass_reads : (fs : List (Known (Reached es p))) (env : List Cell) → list_all p env ≡ true → list_all p (flat_map (λ r. r env) (map (reads es) (map (λ e. e.0) fs))) ≡ true
  all_pass_reads [] env h = refl
  all_pass_reads (f ∷ fs) env h =
      list_all-append p (reads es f.0 env) (flat_map (λ r. r env) (map (reads es) (map (λ e. e.0) fs))) ∙ and_from _ _ (f.1 env h) (all_pass_reads fs env h)

  each_passes : (f : Known (Reached es p)) (env cs : List Cell) → list_all p env ≡ true → list_all p cs ≡ true → list_all p (flat_map (λ c. reads es f.0 (env ++ c ∷ [])) cs) ≡ true
  each_passes f env cs h k =
      list_all-flat_map p (λ c. reads es f.0 (env ++ c ∷ [])) cs
      ∙ list_all-weaker p (λ c. list_all p (reads es f.0 (env ++ c ∷ [])))
      (λ c here. f.1 (env ++ c ∷ []) (list_all-append p env (c ∷ []) ∙ and_from _ _ h (and_from _ _ here refl))) cs k

  step_passes_reads : (y : Formula-F (Known (Reached es p))) (env : List Cell) → list_all p env ≡ true → list_all p (reads_step es (map-Formula Formula Reading (reads es) (layer (Reached es p) y)) env) ≡ true
  step_passes_reads (Formula-F.Symbol t s) env h = cell_passes env t h
  step_passes_reads (Formula-F.NotSymbol t s) env h = cell_passes env t h
  step_passes_reads (Formula-F.Same t u) env h = both_pass (cell_of es env t) (cell_of es env u) (cell_passes env t h) (cell_passes env u h)
  step_passes_reads (Formula-F.NotSame t u) env h = both_pass (cell_of es env t) (cell_of es env u) (cell_passes env t h) (cell_passes env u h)
  step_passes_reads (Formula-F.Adjacent t u) env h = refl
  step_passes_reads (Formula-F.Place t u) env h = refl
  step_passes_reads (Formula-F.Node t a) env h = refl
  step_passes_reads (Formula-F.Not f) env h = f.1 env h
  step_passes_reads (Formula-F.And fs) env h = all_pass_reads fs env h
  step_passes_reads (Formula-F.Or fs) env h = all_pass_reads fs env h
  step_passes_reads (Formula-F.Implies f f') env h = list_all-append p (reads es f.0 env) (reads es f'.0 env) ∙ and_from _ _ (f.1 env h) (f'.1 env h)
  step_passes_reads (Formula-F.Iff f f') env h = list_all-append p (reads es f.0 env) (reads es f'.0 env) ∙ and_from _ _ (f.1 env h) (f'.1 env h)
  step_passes_reads (Formula-F.ForAll bs f) env h = each_passes f env (balls_of es env bs) h (balls_pass env bs h)
  step_passes_reads (Formula-F.Exists bs f) env h = each_passes f env (balls_of es env bs) h (balls_pass env bs h)

  -- if the cells of the variables pass the test, so do all cells that the formula reads
  pub reads_pass : (f : Formula) → Reached es p f
  reads_pass = ind-Formula (Reached es p) (λ x y is env.
      rw (fold-roll-Formula Reading (reads_step es) x, ← is) (step_passes_reads y env))

module _ (g : Grid) where
  abbrev its_edge : Edge → Bool
  its_edge = is_edge g.dimension g.nodes (length g.labels)

  record IsEdge (e : Edge) : Type 0 where
    from : nat_lt e.from g.nodes ≡ true
    to : nat_lt e.to g.nodes ≡ true
    offsets : Offsets g.dimension e.offset

  edge_parts : (e : Edge) → its_edge e ≡ true → IsEdge e
  edge_parts e h =
      let offset = and_parts (nat_lt e.label (length g.labels) && nat_lt e.from g.nodes && nat_lt e.to g.nodes) (is_offset g.dimension e.offset) h in
      let to = and_parts (nat_lt e.label (length g.labels) && nat_lt e.from g.nodes) (nat_lt e.to g.nodes) offset.0 in
      let from = and_parts (nat_lt e.label (length g.labels)) (nat_lt e.from g.nodes) to.0 in
      record { from = from.1; to = to.1; offsets = offsets_flat g.dimension e.offset offset.1 }

  end_placed : (c : Cell) (e : Edge) → is_placed g c ≡ true → its_edge e ≡ true → is_placed g (end_of c e) ≡ true
  end_placed c e h k =
      let parts = edge_parts e k in
      let here = and_parts (is_flat g.dimension c.position) (nat_lt c.node g.nodes) h in
      and_from _ _ (flat_moved g.dimension c.position e.offset here.0 parts.offsets.there) parts.to

  start_placed : (c : Cell) (e : Edge) → is_placed g c ≡ true → its_edge e ≡ true → is_placed g (start_of c e) ≡ true
  start_placed c e h k =
      let parts = edge_parts e k in
      let here = and_parts (is_flat g.dimension c.position) (nat_lt c.node g.nodes) h in
      and_from _ _ (flat_moved g.dimension c.position (reversed e.offset) here.0 parts.offsets.back) parts.from

  pub reads_placed : IsGrid g → (f : Formula) (env : List Cell) → list_all (is_placed g) env ≡ true → list_all (is_placed g) (reads g.edges f env) ≡ true
  reads_placed ok = reads_pass g.edges (is_placed g) its_edge ok.edges end_placed start_placed

  pub origin_placed : (a : ℕ) → a < g.nodes → list_all (is_placed g) (origin_at a ∷ []) ≡ true
  origin_placed a below =
      and_from _ _ (and_from _ _ (and_from _ _ (or_right (nat_lt 1 g.dimension) true refl) (or_right (nat_lt 2 g.dimension) true refl)) (lt-ltb a g.nodes below)) refl
