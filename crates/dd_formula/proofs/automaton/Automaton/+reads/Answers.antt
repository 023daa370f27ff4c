use Rattle.std.proofs.Common.{◌≡◌, List, ◌++◌, map, ap, sym, ◌∙◌, subst, arith}
use Rattle.std.proofs.lemmas.{Bool.leb-true, Result.IfOk-weaker}
use Rattle.std.specs.List.{list_all, flat_map}
use Rattle.dd_lattice.specs.{Cells.shifted, declared.position.Cell.Cell, InOrder.in_order, lemmas.InOrderLaws.list_all-in_order}
use Rattle.dd_formula.specs.{LocalRule.is_near, declared.automaton.Automaton.Automaton}
use Rattle.dd_formula.specs.Automata.{CommonNumbers, IsAutomaton, counted, cells_of, is_cell_of}
use Rattle.dd_formula.specs.lemmas.Cuts.{flat_more}
use Rattle.dd_formula.specs.lemmas.AutomatonLaws.{depth_composed, reads_given, reads_composed, outer_part, inner_part, near_cells, node_at, passes_at, passes_both, moved_placed, moved_cells}
use Rattle.dd_formula.specs.declared.automaton.Automaton.TheVariants as v
use Rattle.dd_formula.proofs.automaton.Automaton.+reads.Goals as goal

pub reads-composed_reads-requires : goal.reads-composed_reads-requires
reads-composed_reads-requires t c =
    let f = c.in-Composed.outer in
    let g = c.in-Composed.inner in
    let s : CommonNumbers = c.requires.setting in
    let formed : IsAutomaton s (v.Composed f g) = subst (IsAutomaton s) c.in-Composed.is c.requires.formed in
    let size = ap (λ (h : Automaton). (counted h).depth) c.in-Composed.is ∙ depth_composed f g in
    let first = ap (λ (h : Automaton). (counted h).depth) c.get.ensures in
    let second = ap (λ (h : Automaton). (counted h).depth) c.get-in-Composed.ensures in (
      omega (arith, size, first, second, c.decreases),
      record {
        setting = s;
        outer = subst (IsAutomaton s) (sym c.get.ensures) (outer_part s f g formed);
        inner = subst (IsAutomaton s) (sym c.get-in-Composed.ensures) (inner_part s f g formed);
        below = c.requires.below;
      },
    )

pub reads-returns-in-Composed-clause-placed : goal.reads-returns-in-Composed-clause-placed
reads-returns-in-Composed-clause-placed t c =
    let f = c.in-Composed.outer in
    let g = c.in-Composed.inner in
    IfOk-weaker c.composed_reads.result _ _ (λ r h s formed below.
    let whole : IsAutomaton s (v.Composed f g) = subst (IsAutomaton s) c.in-Composed.is formed in
    h s (subst (IsAutomaton s) (sym c.get.ensures) (outer_part s f g whole))
    (subst (IsAutomaton s) (sym c.get-in-Composed.ensures) (inner_part s f g whole)) below) c.composed_reads.ensures.placed

pub composed_reads-reads_from-requires : goal.composed_reads-reads_from-requires
composed_reads-reads_from-requires t c =
    let s : CommonNumbers = c.requires.setting in (
      omega (arith, c.decreases),
      record {
        setting = s;
        formed = c.requires.inner;
        cells = ap (list_all (is_cell_of s)) c.as_slice.ensures.value ∙ c.in_ok-cells.ensures.placed s c.requires.outer c.requires.below;
        near =
            ap (list_all is_near) (c.as_slice.ensures.value ∙ c.in_ok-cells.ensures.list)
            ∙ near_cells s c.args.outer.now c.requires.outer c.args.node c.requires.below;
      },
    )

pub composed_reads-returns-clause-list : goal.composed_reads-returns-clause-list
composed_reads-returns-clause-list t c =
    let cells = c.as_slice.ensures.value ∙ c.in_ok-cells.ensures.list in
    IfOk-weaker c.reads_from.result _ _ (λ r is.
    is ∙ (ap (λ cs. in_order (flat_map (moved_cells c.args.inner.now) cs)) cells ∙ sym (reads_composed c.args.outer.now c.args.inner.now c.args.node))) c.reads_from.ensures.list

pub composed_reads-returns-clause-placed : goal.composed_reads-returns-clause-placed
composed_reads-returns-clause-placed t c =
    IfOk-weaker c.reads_from.result _ _ (λ r h s outer inner below.
    h s inner (ap (list_all (is_cell_of s)) c.as_slice.ensures.value ∙ c.in_ok-cells.ensures.placed s outer below)) c.reads_from.ensures.placed

pub reads_from-push_shifted-requires-clause-near : goal.reads_from-push_shifted-requires-clause-near
reads_from-push_shifted-requires-clause-near t c =
    let s : CommonNumbers = c.requires.setting in
    let node = node_at s c.args.cells.now c.loop-cell.cell-index c.cell-item.result c.requires.cells c.loop-cell-test.true c.cell-item.is in
    ap (list_all is_near) (c.as_slice.ensures.value ∙ c.in_ok-there.ensures.list) ∙ near_cells s c.args.self.now c.requires.formed c.cell-item.result.node node

pub reads_from-loop-cell-preserved : goal.reads_from-loop-cell-preserved
reads_from-loop-cell-preserved t c =
    let f : Automaton = c.args.self.now in
    let cells : List Cell = c.args.cells.now in
    let i = c.loop-cell.cell-index in
    let cell : Cell = c.cell-item.result in
    let there : c.as_slice.result.now ≡ cells_of f cell.node = c.as_slice.ensures.value ∙ c.in_ok-there.ensures.list in
    let found : c.push_shifted.new.found.items ≡ c.loop-cell.found.items ++ moved_cells f cell =
    c.in_ok-push_shifted.ensures ∙ ap (λ ds. c.loop-cell.found.items ++ map (shifted cell.position) ds) there in
    record {
      list =
          found
          ∙ (ap (λ ds. ds ++ moved_cells f cell) c.loop-cell.invariant.list
          ∙ sym (flat_more (moved_cells f) cells i cell c.loop-cell-test.true c.cell-item.is));
      placed = λ s formed placed.
          ap (list_all (is_cell_of s)) found
          ∙ passes_both (is_cell_of s) c.loop-cell.found.items (moved_cells f cell) (c.loop-cell.invariant.placed s formed placed)
          (moved_placed s cell (cells_of f cell.node)
          (passes_at (is_cell_of s) cells i cell placed c.loop-cell-test.true c.cell-item.is)
          (ap (list_all (is_cell_of s)) (sym c.in_ok-there.ensures.list)
          ∙ c.in_ok-there.ensures.placed s formed (node_at s cells i cell placed c.loop-cell-test.true c.cell-item.is)));
    }

pub reads_from-returns-clause-placed : goal.reads_from-returns-clause-placed
reads_from-returns-clause-placed t c =
    IfOk-weaker c.in_order.result _ _ (λ r is s formed placed.
    ap (list_all (is_cell_of s)) is
    ∙ (list_all-in_order (is_cell_of s) c.deref.result.now
    ∙ (ap (list_all (is_cell_of s)) c.deref.ensures.value ∙ c.loop-cell.invariant.placed s formed placed))) c.in_order.ensures.list

pub reads-returns-in-Given-clause-list : goal.reads-returns-in-Given-clause-list
reads-returns-in-Given-clause-list t c =
    let same = ap (λ (f : Automaton). cells_of f c.args.node) c.in-Given.is ∙ reads_given c.in-Given.cases c.args.node in
    IfOk-weaker c.reads.result _ _ (λ r is. is ∙ sym same) c.reads.ensures.list

pub reads_from-reads-requires : goal.reads_from-reads-requires
reads_from-reads-requires t c =
    let s : CommonNumbers = c.requires.setting in (
      omega (arith, c.decreases),
      record {
        setting = s;
        formed = c.requires.formed;
        below = node_at s c.args.cells.now c.loop-cell.cell-index c.cell-item.result c.requires.cells c.loop-cell-test.true c.cell-item.is;
      },
    )

pub reads_from-push_shifted-requires-clause-by : goal.reads_from-push_shifted-requires-clause-by
reads_from-push_shifted-requires-clause-by t c =
    leb-true _ _ (passes_at is_near c.args.cells.now c.loop-cell.cell-index c.cell-item.result c.requires.near c.loop-cell-test.true c.cell-item.is)
