use Rattle.std.proofs.Common.{◌≡◌, ◌<◌, ◌+◌, List, ℕ, map, take, ap, sym, ◌∙◌, subst, arith}
use Rattle.std.specs.List.{list_all}
use Rattle.dd_lattice.specs.declared.position.Cell.{Cell}
use Rattle.dd_expansion.specs.Leaves.{total}
use Rattle.dd_formula.specs.{LocalRule.is_near, declared.automaton.Automaton.Automaton}
use Rattle.dd_formula.specs.Automata.{CommonNumbers, IsAutomaton, counted, cells_of, is_cell_of}
use Rattle.dd_formula.specs.{Counts.cut, lemmas.Cuts.total_more, lemmas.Cuts.total-take-le, lemmas.Cuts.next_cut, lemmas.Cuts.cut_passed}
use Rattle.dd_formula.specs.lemmas.AutomatonLaws.{depth_composed, outer_part, inner_part, near_cells, node_at, instances_composed}
use Rattle.dd_formula.specs.declared.automaton.Automaton.TheVariants as v
use Rattle.dd_formula.proofs.automaton.Automaton.+instances.Goals as goal

pub instances-composed_instances-requires : goal.instances-composed_instances-requires
instances-composed_instances-requires t c =
    let f = c.in-Composed.outer in
    let g = c.in-Composed.inner in
    let s : CommonNumbers = c.requires.setting in
    let formed : IsAutomaton s (v.Composed f g) = subst (IsAutomaton s) c.in-Composed.is c.requires.formed in
    let size = ap (λ (h : Automaton). (counted h).depth) c.in-Composed.is ∙ depth_composed f g in
    let first = ap (λ (h : Automaton). (counted h).depth) c.get.ensures in
    let second = ap (λ (h : Automaton). (counted h).depth) c.get-in-Composed.ensures in (
      omega (arith, size, first, second, c.decreases),
      record {
        setting = s;
        outer = subst (IsAutomaton s) (sym c.get.ensures) (outer_part s f g formed);
        inner = subst (IsAutomaton s) (sym c.get-in-Composed.ensures) (inner_part s f g formed);
        below = c.requires.below;
      },
    )

pub composed_instances-instances_from-requires : goal.composed_instances-instances_from-requires
composed_instances-instances_from-requires t c =
    let s : CommonNumbers = c.requires.setting in (
      omega (arith, c.decreases),
      record {
        setting = s;
        formed = c.requires.inner;
        cells = ap (list_all (is_cell_of s)) c.as_slice.ensures.value ∙ c.in_ok-cells.ensures.placed s c.requires.outer c.requires.below;
        near =
            ap (list_all is_near) (c.as_slice.ensures.value ∙ c.in_ok-cells.ensures.list)
            ∙ near_cells s c.args.outer.now c.requires.outer c.args.node c.requires.below;
      },
    )

all_parts : (a b r p q f g rest whole : ℕ) → a ≡ cut 20000 f → b ≡ cut 20000 g → r ≡ cut 20000 rest → p ≡ cut 20000 (a + b) → q ≡ cut 20000 (p + r) → whole ≡ f + g + rest → q ≡ cut 20000 whole
all_parts a b r p q f g rest whole e1 e2 e3 e4 e5 e6 = omega arith

pub composed_instances-returns : goal.composed_instances-returns
composed_instances-returns t c =
    let f : Automaton = c.args.outer.now in
    let g : Automaton = c.args.inner.now in
    let n = c.args.node in
    let sum : List Cell → ℕ = λ cs. total (map (λ d. (counted g).instances d.node) cs) in
    let cells : c.as_slice.result.now ≡ cells_of f n = c.as_slice.ensures.value ∙ c.in_ok-cells.ensures.list in
    all_parts c.in_ok-first.first c.in_ok-second.second c.in_ok-rest.rest c.plus.result c.plus-2.result
    ((counted f).instances n) ((counted g).instances n) (sum (cells_of f n)) ((counted (v.Composed f g)).instances n)
    c.in_ok-first.ensures c.in_ok-second.ensures (c.in_ok-rest.ensures ∙ ap (λ cs. cut 20000 (sum cs)) cells)
    c.plus.ensures c.plus-2.ensures (instances_composed f g n)

pub instances_from-returns-then-sum-gt-MOST_INSTANCES : goal.instances_from-returns-then-sum-gt-MOST_INSTANCES
instances_from-returns-then-sum-gt-MOST_INSTANCES t c =
    let at : Cell → ℕ = λ d. (counted c.args.self.now).instances d.node in
    let cells : List Cell = c.args.cells.now in
    let i = c.loop-cell.cell-index in
    let cell : Cell = c.cell-item.result in
    let sum = total (map at (take (i + 1) cells)) in
    let next : c.plus-sum.result ≡ cut 20000 sum =
    next_cut 20000 c.loop-cell.sum c.in_ok-instances.field-0 c.plus-sum.result (total (map at (take i cells))) (at cell) sum
    c.loop-cell.invariant c.in_ok-instances.ensures c.plus-sum.ensures (total_more at cells i cell c.loop-cell-test.true c.cell-item.is) in
    let past : 20000 < cut 20000 sum = omega (arith, next, c.if-sum-gt-MOST_INSTANCES.true) in
    next ∙ cut_passed 20000 sum (total (map at cells)) (total-take-le at cells (i + 1)) past

pub instances_from-loop-cell-preserved : goal.instances_from-loop-cell-preserved
instances_from-loop-cell-preserved t c =
    let at : Cell → ℕ = λ d. (counted c.args.self.now).instances d.node in
    let cells : List Cell = c.args.cells.now in
    let i = c.loop-cell.cell-index in
    let cell : Cell = c.cell-item.result in
    next_cut 20000 c.loop-cell.sum c.in_ok-instances.field-0 c.plus-sum.result (total (map at (take i cells))) (at cell) (total (map at (take (i + 1) cells)))
    c.loop-cell.invariant c.in_ok-instances.ensures c.plus-sum.ensures (total_more at cells i cell c.loop-cell-test.true c.cell-item.is)

pub instances_from-instances-requires : goal.instances_from-instances-requires
instances_from-instances-requires t c =
    let s : CommonNumbers = c.requires.setting in (
      omega (arith, c.decreases),
      record {
        setting = s;
        formed = c.requires.formed;
        below = node_at s c.args.cells.now c.loop-cell.cell-index c.cell-item.result c.requires.cells c.loop-cell-test.true c.cell-item.is;
      },
    )
