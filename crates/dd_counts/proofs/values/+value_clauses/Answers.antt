use Rattle.std.proofs.Common.{◌≡◌, ◌+◌, List, ℕ, map, take, ap, sym, ◌∙◌, subst, arith}
use Rattle.std.proofs.lemmas.Grind.{common_steps}
use Rattle.std.specs.List.{list_all}
use Rattle.dd_lattice.specs.declared.position.Cell.{Cell}
use Rattle.dd_expansion.specs.Leaves.{total}
use Rattle.dd_formula.specs.{LocalRule.is_near, declared.automaton.Automaton.Automaton}
use Rattle.dd_formula.specs.Automata.{CommonNumbers, IsAutomaton, counted, cells_of, is_cell_of}
use Rattle.dd_formula.specs.{Counts.cut, lemmas.Cuts.total_more, lemmas.Cuts.next_cut}
use Rattle.dd_formula.specs.lemmas.AutomatonLaws.{depth_composed, outer_part, inner_part, near_cells}
use Rattle.dd_formula.specs.ValueCounts.{value_clauses}
use Rattle.dd_counts.proofs.ValueLaws.{value_composed}
use Rattle.dd_formula.specs.declared.automaton.Automaton.TheVariants as v
use Rattle.dd_counts.proofs.values.+value_clauses.Goals as goal

pub value_clauses-value_clauses_from-requires : goal.value_clauses-value_clauses_from-requires
value_clauses-value_clauses_from-requires t c =
    let f = c.in-Composed.outer in
    let g = c.in-Composed.inner in
    let needs = c.requires.node in
    let s : CommonNumbers = needs.setting in
    let formed : IsAutomaton s (v.Composed f g) = subst (IsAutomaton s) c.in-Composed.is needs.formed in
    let outer : IsAutomaton s c.get.result.now = subst (IsAutomaton s) (sym c.get.ensures) (outer_part s f g formed) in
    let size = ap (λ (h : Automaton). (counted h).depth) c.in-Composed.is ∙ depth_composed f g in
    let part = ap (λ (h : Automaton). (counted h).depth) c.get-in-Composed-2.ensures in (
      omega (arith, size, part, c.decreases),
      (
        record {
          setting = s;
          formed = subst (IsAutomaton s) (sym c.get-in-Composed-2.ensures) (inner_part s f g formed);
          cells = ap (list_all (is_cell_of s)) c.as_slice.ensures.value ∙ c.in_ok-cells-in-Composed.ensures.placed s outer needs.below;
          near = ap (list_all is_near) (c.as_slice.ensures.value ∙ c.in_ok-cells-in-Composed.ensures.list) ∙ near_cells s c.get.result.now outer c.args.node needs.below;
        },
        c.requires.limit,
      ),
    )

both_parts : (l a b n f rest whole : ℕ) → a ≡ cut l f → b ≡ cut l rest → n ≡ cut l (b + a) → whole ≡ rest + f → n ≡ cut l whole
both_parts l a b n f rest whole e1 e2 e3 e4 = omega arith

pub value_clauses-returns-in_ok-rest-in-Composed : goal.value_clauses-returns-in_ok-rest-in-Composed
value_clauses-returns-in_ok-rest-in-Composed t c =
    let f : Automaton = c.in-Composed.outer in
    let g : Automaton = c.in-Composed.inner in
    let n = c.args.node in
    let l = c.args.limit in
    let k = c.args.symbols in
    let sum : Automaton → List Cell → ℕ = λ h cs. total (map (λ (d : Cell). value_clauses k h d.node) cs) in
    let cells : c.as_slice.result.now ≡ cells_of f n = c.as_slice.ensures.value ∙ (c.in_ok-cells-in-Composed.ensures.list ∙ ap (λ (h : Automaton). cells_of h n) c.get.ensures) in
    both_parts l c.in_ok-first-in-Composed.first c.in_ok-rest-in-Composed.rest c.plus.result (value_clauses k f n) (sum g (cells_of f n)) (value_clauses k c.args.automaton.now n)
    (c.in_ok-first-in-Composed.ensures ∙ ap (λ (h : Automaton). cut l (value_clauses k h n)) c.get-in-Composed.ensures)
    (c.in_ok-rest-in-Composed.ensures
    ∙ (ap (λ (h : Automaton). cut l (sum h c.as_slice.result.now)) c.get-in-Composed-2.ensures ∙ ap (λ (cs : List Cell). cut l (sum g cs)) cells))
    c.plus.ensures
    (ap (λ (h : Automaton). value_clauses k h n) c.in-Composed.is ∙ value_composed k f g n)

pub value_clauses_from-loop-cell-preserved : goal.value_clauses_from-loop-cell-preserved
value_clauses_from-loop-cell-preserved t c =
    let at : Cell → ℕ = λ d. value_clauses c.args.symbols c.args.automaton.now d.node in
    let cells : List Cell = c.args.cells.now in
    let i = c.loop-cell.cell-index in
    let cell : Cell = c.cell-item.result in
    next_cut c.args.limit c.loop-cell.sum c.in_ok-value_clauses.field-0 c.plus-sum.result (total (map at (take i cells))) (at cell) (total (map at (take (i + 1) cells)))
    c.loop-cell.invariant c.in_ok-value_clauses.ensures c.plus-sum.ensures (total_more at cells i cell c.loop-cell-test.true c.cell-item.is)

pub value_clauses_from-returns : goal.value_clauses_from-returns
value_clauses_from-returns t c = grind (arith, common_steps)

pub value_clauses_from-value_clauses-requires : goal.value_clauses_from-value_clauses-requires
value_clauses_from-value_clauses-requires t c = grind (arith, common_steps)
