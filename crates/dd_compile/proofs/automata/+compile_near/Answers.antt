use Rattle.std.proofs.{Common.◌≡◌, Common.List, Common.ap, Common.sym, Common.◌∙◌, Common.subst, Common.arith, lemmas.Result.IfOk-weaker}
use Rattle.std.specs.List.{list_all, Sorted.IsStrictlySortedBy}
use Rattle.dd_lattice.specs.{Order.cell_cmp, declared.position.Cell.Cell}
use Rattle.dd_formula.specs.{LocalRule.is_near, Automata.is_cell_of, declared.automaton.Automaton.Automaton}
use Rattle.dd_formula.specs.lemmas.AutomatonLaws.{near_cells, node_at}
use Rattle.dd_circuit.specs.Circuits.{Network, size}
use Rattle.dd_compile.specs.{Wiring.Wiring, lemmas.Progress.Extends-trans}
use Rattle.dd_compile.proofs.Composing.{value_few, value_wired, value_inside, composing_step}
use Rattle.dd_compile.proofs.Composed.{cases_say, comes_after, inner_wired, outer_wired, whole_length, outer_few, composed_gates, composed_signals, composed_says}
use Rattle.dd_compile.proofs.automata.+compile_near.Goals as goal

pub compile_near-returns-in-Given-clause-says : goal.compile_near-returns-in-Given-clause-says
compile_near-returns-in-Given-clause-says t c =
    IfOk-weaker c.compile_cases.result _ _ (λ v h.
    cases_say c.compile_cases.new.circuit c.args.inputs.now c.args.symbols c.args.automaton.now c.in-Given.cases c.args.at.now v.items c.in-Given.is h) c.compile_cases.ensures.says

pub compile_composed-compile_inner-requires : goal.compile_composed-compile_inner-requires
compile_composed-compile_inner-requires t c =
    let needs = c.requires.automata in
    let f : Automaton = c.args.outer.now in
    let g : Automaton = c.args.inner.now in
    let at : Cell = c.args.at.now in
    let same = c.as_slice.ensures.value in
    let is = same ∙ c.in_ok-cells.ensures.list in
    let all = whole_length c.args.symbols f g c.args.inputs.now at c.args.circuit.now c.as_slice.result.now is in (
      omega (arith, c.decreases),
      (
        record {
          setting = needs.setting;
          formed = needs.inner;
          cells = ap (list_all (is_cell_of needs.setting)) same ∙ c.in_ok-cells.ensures.placed needs.setting needs.outer needs.below;
          all = needs.all;
        },
        (
          subst (IsStrictlySortedBy cell_cmp) (sym same) c.in_ok-cells.ensures.order,
          (
            ap (list_all is_near) is ∙ near_cells needs.setting f needs.outer at.node needs.below,
            (
              omega (arith, c.requires.near),
              (
                inner_wired (size c.args.circuit.now) c.args.symbols c.args.inputs.now f g at c.as_slice.result.now is c.requires.wired,
                omega (arith, all, c.requires.few),
              ),
            ),
          ),
        ),
      ),
    )

pub compile_composed-compile_near-requires : goal.compile_composed-compile_near-requires
compile_composed-compile_near-requires t c =
    let needs = c.requires.automata in
    let f : Automaton = c.args.outer.now in
    let g : Automaton = c.args.inner.now in
    let at : Cell = c.args.at.now in
    let k = c.args.symbols in
    let w : Wiring = c.args.inputs.now in
    let start : Network = c.args.circuit.now in
    let one : Network = c.compile_inner.new.circuit in
    let values : Wiring = c.in_ok-values.values in
    let e = c.in_ok-values.ensures in
    let cs : List Cell = c.as_slice.result.now in
    let is = c.as_slice.ensures.value ∙ c.in_ok-cells.ensures.list in (
      omega (arith, c.decreases),
      (
        record { setting = needs.setting; formed = needs.outer; below = needs.below; all = needs.all },
        (
          omega (arith, c.requires.near),
          (
            outer_wired k f g w at start one values cs is e.values,
            outer_few k f g w at start cs is one values e.extends e.gates e.wiring c.requires.few,
          ),
        ),
      ),
    )

pub compile_composed-returns-clause-gates : goal.compile_composed-returns-clause-gates
compile_composed-returns-clause-gates t c =
    let e = c.in_ok-values.ensures in
    let is = c.as_slice.ensures.value ∙ c.in_ok-cells.ensures.list in
    IfOk-weaker c.compile_near.result _ _ (λ _ h.
    composed_gates c.args.symbols c.args.outer.now c.args.inner.now c.args.inputs.now c.args.at.now c.args.circuit.now c.as_slice.result.now is
    c.compile_inner.new.circuit c.in_ok-values.values e.extends e.gates e.wiring c.compile_near.new.circuit h) c.compile_near.ensures.gates

pub compile_composed-returns-clause-signals : goal.compile_composed-returns-clause-signals
compile_composed-returns-clause-signals t c =
    let e = c.in_ok-values.ensures in
    let is = c.as_slice.ensures.value ∙ c.in_ok-cells.ensures.list in
    IfOk-weaker c.compile_near.result _ _ (λ v h.
    composed_signals c.args.symbols c.args.outer.now c.args.inner.now c.args.inputs.now c.args.at.now c.args.circuit.now c.as_slice.result.now is
    c.compile_inner.new.circuit c.in_ok-values.values e.extends e.gates e.wiring v.items h) c.compile_near.ensures.signals

pub compile_composed-returns-clause-says : goal.compile_composed-returns-clause-says
compile_composed-returns-clause-says t c =
    let e = c.in_ok-values.ensures in
    let needs = c.requires.automata in
    let is = c.as_slice.ensures.value ∙ c.in_ok-cells.ensures.list in
    IfOk-weaker c.compile_near.result _ _ (λ v h.
    composed_says c.args.symbols c.args.outer.now c.args.inner.now c.args.inputs.now c.args.at.now c.args.circuit.now c.compile_inner.new.circuit c.in_ok-values.values c.as_slice.result.now is e.values
    needs.setting needs.inner needs.all c.compile_near.new.circuit v.items c.compile_near.ensures.extends h) c.compile_near.ensures.says

pub compile_inner-compile_near-requires : goal.compile_inner-compile_near-requires
compile_inner-compile_near-requires t c =
    let k = c.args.symbols in
    let f : Automaton = c.args.automaton.now in
    let w : Wiring = c.args.inputs.now in
    let cs : List Cell = c.args.cells.now in
    let at : Cell = c.args.at.now in
    let i = c.loop-cell.cell-index in
    let start : Network = c.args.circuit.now in
    let now : Network = c.loop-cell.circuit in
    let values : Wiring = c.loop-cell.values in
    let cell : Cell = c.cell-item.result in
    let there : Cell = c.cell_near-there.result in
    let p = c.loop-cell.invariant in
    let below = c.loop-cell-test.true in
    let is = c.cell-item.is in
    let placed = c.cell_near-there.ensures in
    let needs = c.requires.automaton in
    let node = node_at needs.setting cs i cell needs.cells below is in
    let same : there.node ≡ cell.node = ap (λ (d : Cell). d.node) placed in (
      omega (arith, c.decreases),
      (
        record { setting = needs.setting; formed = needs.formed; below = omega (arith, node, same); all = needs.all },
        (
          value_inside k f w cs at i start now values cell there p below is placed _ c.requires.near c.requires.inside,
          (
            value_wired k f w cs at i start now values cell there p below is placed c.requires.wired,
            value_few k f w cs at i start now values cell there p below is placed c.requires.few,
          ),
        ),
      ),
    )

pub compile_inner-add-requires : goal.compile_inner-add-requires
compile_inner-add-requires t c =
    comes_after c.args.at.now c.args.cells.now c.loop-cell.cell-index c.cell-item.result c.cell_near-there.result c.loop-cell.values.cells c.requires.ascending c.loop-cell-test.true c.cell-item.is
    c.cell_near-there.ensures c.loop-cell.invariant.values_are.cells

pub compile_inner-loop-cell-preserved : goal.compile_inner-loop-cell-preserved
compile_inner-loop-cell-preserved t c =
    let e = c.in_ok-signals.ensures in
    composing_step c.args.symbols c.args.automaton.now c.args.inputs.now c.args.cells.now c.args.at.now c.loop-cell.cell-index c.args.circuit.now c.loop-cell.circuit c.loop-cell.values
    c.cell-item.result c.cell_near-there.result c.loop-cell.invariant c.loop-cell-test.true c.cell-item.is c.cell_near-there.ensures
    c.compile_near.new.circuit c.in_ok-signals.signals.items c.add.new.self e.extends e.signals e.gates e.in_range e.says c.in_ok-add.ensures.ok

pub compile_inner-returns-in_err-add-clause-extends : goal.compile_inner-returns-in_err-add-clause-extends
compile_inner-returns-in_err-add-clause-extends t c =
    Extends-trans c.args.circuit.now c.loop-cell.circuit c.compile_near.new.circuit c.loop-cell.invariant.extends c.compile_near.ensures.extends

pub compile_inner-returns-in_err-signals-clause-extends : goal.compile_inner-returns-in_err-signals-clause-extends
compile_inner-returns-in_err-signals-clause-extends t c =
    Extends-trans c.args.circuit.now c.loop-cell.circuit c.compile_near.new.circuit c.loop-cell.invariant.extends c.compile_near.ensures.extends

pub compile_composed-returns-clause-extends : goal.compile_composed-returns-clause-extends
compile_composed-returns-clause-extends t c =
    Extends-trans c.args.circuit.now c.compile_inner.new.circuit c.compile_near.new.circuit c.compile_inner.ensures.extends c.compile_near.ensures.extends
