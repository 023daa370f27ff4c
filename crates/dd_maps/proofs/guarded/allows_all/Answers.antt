use Rattle.std.proofs.Common.{◌≡◌, ◌<◌, ap, sym, ◌∙◌, arith}
use Rattle.std.specs.List.{list_all, range_with_len}
use Rattle.dd_topology.specs.Sets.{allows}
use Rattle.dd_formula.specs.lemmas.CompositionLaws.{passes_more, range_fails}
use Rattle.dd_maps.proofs.guarded.allows_all.Goals as goal

pub returns-then-not-allows : goal.returns-then-not-allows
returns-then-not-allows c =
    let s = c.args.sets.now in
    let t = c.loop-symbol.symbol in
    let below : t < s.symbols = omega (arith, c.loop-symbol-test.true, c.symbols-symbol-end.ensures.value) in
    sym (range_fails (allows s c.args.node) s.symbols t below (sym c.allows.ensures ∙ c.if-not-allows.true))

pub loop-symbol-preserved : goal.loop-symbol-preserved
loop-symbol-preserved c = passes_more (allows c.args.sets.now c.args.node) c.loop-symbol.symbol c.loop-symbol.invariant (sym c.allows.ensures ∙ c.if-not-allows.false)

pub returns : goal.returns
returns c =
    let s = c.args.sets.now in
    let same : c.loop-symbol.symbol ≡ s.symbols = omega (arith, c.loop-symbol-test.false, c.loop-symbol.auto.symbol-end, c.symbols-symbol-end.ensures.value) in
    sym (ap (λ n. list_all (allows s c.args.node) (range_with_len 0 n)) (sym same) ∙ c.loop-symbol.invariant)
