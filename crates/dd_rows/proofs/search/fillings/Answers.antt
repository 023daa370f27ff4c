use Rattle.std.proofs.Common.{◌≡◌, ◌<◌, ◌+◌, ℕ, List, length, sym, ◌∙◌, ap, subst, take, map, get_or, arith}
use Rattle.std.proofs.lemmas.List.{get_or_default}
use Rattle.std.proofs.lemmas.List.FromFn.{get_or-map-range_with_len, length-map-range_with_len}
use Rattle.std.proofs.lemmas.{Result.err_from_is_err_and, List.Elements.All-filter, List.Elements.All-take}
use Rattle.std.specs.{Bool.nat_eq, List.range_with_len, List.flat_map}
use Rattle.dd_lattice.specs.{Order.cell_cmp, Place.IsInRange, declared.position.Cell.Cell}
use Rattle.dd_formula.specs.LocalRule.{LocalRule}
use Rattle.dd_rows.specs.Fillings.{most_fillings, HasManyFillings}
use Rattle.dd_rows.specs.listing.Levels.{AreOf, chosen, settled, last_number, extended}
use Rattle.dd_rows.specs.{listing.Formulas.SayTrue, listing.Formulas.are_all_true, lemmas.Lists.sorted_take}
use Rattle.dd_rows.specs.lemmas.Growing.{level_next, few_next}
use Rattle.dd_rows.proofs.{Chosen.chosen_by, Steps.on_large_weaker}
use Rattle.dd_rows.proofs.search.fillings.Goals as goal

pub formulas-requires-clause-ascending : goal.formulas-requires-clause-ascending
formulas-requires-clause-ascending c = sorted_take cell_cmp (c.loop-k.k + 1) c.args.cells.now c.requires.ascending

pub formulas-requires-clause-near : goal.formulas-requires-clause-near
formulas-requires-clause-near c = All-take (λ d. IsInRange d.position) (c.loop-k.k + 1) c.args.cells.now c.requires.near

settle : (x : LocalRule) (cells taken item : List Cell) (ns slice : List ℕ) (all : List (List Cell)) (k : ℕ) → k < length cells → taken ≡ item → item ≡ get_or all k item →
    all ≡ map (chosen slice cells) (range_with_len 0 (length cells)) → slice ≡ ns → ns ≡ map (last_number x cells) cells → taken ≡ settled x cells k
settle x cells taken item ns slice all k below a at b d e =
    a ∙ (at ∙ (ap (λ ls. get_or ls k item) b
    ∙ (get_or-map-range_with_len (chosen slice cells) 0 (length cells) k k item below (omega arith)
    ∙ (ap (λ (ms : List ℕ). chosen ms cells k) (d ∙ e) ∙ chosen_by (last_number x cells) cells k))))

pub index-requires : goal.index-requires
index-requires c =
    let cells = c.args.cells.now in
    let size = ap length c.in_ok-places.ensures ∙ length-map-range_with_len (chosen c.as_slice.result.now cells) 0 (length cells) in
    let within = c.in_ok-places.places.ok.0 in
    let below = c.loop-k-test.true in
    omega (arith, size, within, below)

pub formulas-requires-clause-places : goal.formulas-requires-clause-places
formulas-requires-clause-places c =
    let x = c.args.rule.now in
    let cells = c.args.cells.now in
    let k = c.loop-k.k in
    let is = settle x cells c.as_slice-in-loop-k.result.now c.index.result.now c.in_ok-numbers.numbers.items c.as_slice.result.now c.in_ok-places.places.items k
    c.loop-k-test.true c.as_slice-in-loop-k.ensures c.index.ensures c.in_ok-places.ensures c.as_slice.ensures.value c.in_ok-numbers.ensures in
    subst (AreOf x) (sym is) (All-filter (λ d. nat_eq (last_number x cells d) k) (λ d. d.node < x.nodes) cells c.requires.nodes)

pub returns-in_err-level-clause-err : goal.returns-in_err-level-clause-err
returns-in_err-level-clause-err c =
    let x = c.args.rule.now in
    let cells = c.args.cells.now in
    let k = c.loop-k.k in
    let is = settle x cells c.as_slice-in-loop-k.result.now c.index.result.now c.in_ok-numbers.numbers.items c.as_slice.result.now c.in_ok-places.places.items k
    c.loop-k-test.true c.as_slice-in-loop-k.ensures c.index.ensures c.in_ok-places.ensures c.as_slice.ensures.value c.in_ok-numbers.ensures in
    let cell = get_or cells k c.index-cells-k.result in
    let says = subst (SayTrue x (take (k + 1) cells) c.as_slice-in-loop-k.result.now) (sym c.as_slice-in-loop-k-2.ensures) c.in_ok-formulas.ensures in
    let more = level_next x cells c.requires.ascending c.requires.near k cell c.loop-k-test.true (get_or_default cells k cell c.index-cells-k.result c.loop-k-test.true) c.as_slice-in-loop-k.result.now
    c.as_slice-in-loop-k-2.result.now c.as_slice-in-loop-k-3.result.now says is (c.as_slice-in-loop-k-3.ensures ∙ c.loop-k.invariant.0) in
    let next = flat_map (extended x (are_all_true c.as_slice-in-loop-k-2.result.now) cell.node) c.as_slice-in-loop-k-3.result.now in
    let sizes = ap length more in
    let p = err_from_is_err_and c.from_residual-in_err-level.result c.from_residual-in_err-level.ensures.1 in
    rw (p.1, p.2)
    (on_large_weaker c.in_err-level.field-0.0 (most_fillings < length next) (HasManyFillings x cells)
    (λ h. record { cells = k + 1; many = omega (arith, sizes, h) }) c.in_err-level.ensures.err)

pub loop-k-preserved : goal.loop-k-preserved
loop-k-preserved c =
    let x = c.args.rule.now in
    let cells = c.args.cells.now in
    let k = c.loop-k.k in
    let is = settle x cells c.as_slice-in-loop-k.result.now c.index.result.now c.in_ok-numbers.numbers.items c.as_slice.result.now c.in_ok-places.places.items k
    c.loop-k-test.true c.as_slice-in-loop-k.ensures c.index.ensures c.in_ok-places.ensures c.as_slice.ensures.value c.in_ok-numbers.ensures in
    let cell = get_or cells k c.index-cells-k.result in
    let says = subst (SayTrue x (take (k + 1) cells) c.as_slice-in-loop-k.result.now) (sym c.as_slice-in-loop-k-2.ensures) c.in_ok-formulas.ensures in
    let more = level_next x cells c.requires.ascending c.requires.near k cell c.loop-k-test.true (get_or_default cells k cell c.index-cells-k.result c.loop-k-test.true) c.as_slice-in-loop-k.result.now
    c.as_slice-in-loop-k-2.result.now c.as_slice-in-loop-k-3.result.now says is (c.as_slice-in-loop-k-3.ensures ∙ c.loop-k.invariant.0) in
    let whole = c.in_ok-level.ensures.ok ∙ more in
    let sizes = ap length whole in
    let few = c.in_ok-level.ensures.few in
    (whole, few_next x cells k c.loop-k.invariant.1 (omega (arith, sizes, few)))
