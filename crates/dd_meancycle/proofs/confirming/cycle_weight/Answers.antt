use Rattle.std.proofs.Common.{◌≡◌, ◌<◌, ◌+◌, ◌-◌, ◌%◌, ◌++◌, ◌∷◌, [], ℕ, List, length, take, get_or, Some, arith, refl, ap, sym, subst, ◌∙◌}
use Rattle.std.proofs.lemmas.List.{take_more, take_all}
use Rattle.dd_transfer.specs.Graphs.{next_of, weight_at}
use Rattle.dd_meancycle.specs.Means.{IsPath, weight_of}
use Rattle.dd_meancycle.specs.lemmas.StepLaws.{weight_small, step, path_end, path_push, weight_push}
use Rattle.dd_meancycle.proofs.confirming.cycle_weight.Goals as goal

pub loop-state-preserved : goal.loop-state-preserved
loop-state-preserved c =
    let g = c.args.graph.now in
    let cycle = c.args.cycle.now in
    let i = c.loop-state.state-index in
    let s = get_or cycle i 0 in
    let more : take (i + 1) cycle ≡ take i cycle ++ s ∷ [] = take_more cycle i 0 c.loop-state-test.true in
    let edge : next_of g c.loop-state.from (s % g.slices) ≡ Some s = c.if-not-leads.ensures.value.0 refl in
    let weighs : c.slice_weight.result ≡ weight_at g (s % g.slices) = c.slice_weight.ensures.value ∙ ap (λ (n : ℕ). weight_at g (s % n)) c.slices.ensures.value in
    let few = weight_small g (s % g.slices) c.slices.ensures.kept (step g c.loop-state.from (s % g.slices) s edge).slice in
    record {
      path = subst (λ (ss : List ℕ). IsPath g c.in_ok-last.field-0.now ss s) (sym more) (path_push g (take i cycle) c.in_ok-last.field-0.now c.loop-state.from s c.loop-state.invariant.path edge);
      sum = (let all = ap (weight_of g) more ∙ weight_push g (take i cycle) s in omega (arith, all, weighs, c.loop-state.invariant.sum));
      small = omega (arith, few, weighs, c.loop-state.invariant.small);
    }

pub returns : goal.returns
returns c =
    let g = c.args.graph.now in
    let cycle = c.args.cycle.now in
    let last = c.in_ok-last.field-0.now in
    let i = c.loop-state.state-index in
    let whole : take i cycle ≡ cycle = take_all i cycle c.loop-state-test.false in
    let k = length cycle - 1 in
    let turns : 0 < length cycle = c.in_ok-last.ensures.item.3.0 in
    let some : k + 1 ≡ length cycle = omega (arith, turns) in
    let path : IsPath g last cycle c.loop-state.from = subst (λ (ss : List ℕ). IsPath g last ss c.loop-state.from) whole c.loop-state.invariant.path in
    let ends : c.loop-state.from ≡ get_or cycle k 0 = path_end g cycle last c.loop-state.from 0 k some path in
    let same : last ≡ get_or cycle k 0 = c.in_ok-last.ensures.item.4 (omega arith) 0 in
    let closed : IsPath g last cycle last = subst (λ (v : ℕ). IsPath g last cycle v) (ends ∙ sym same) path in (
      record { last = last; closed = closed; turns = turns },
      c.loop-state.invariant.sum ∙ ap (weight_of g) whole,
    )
