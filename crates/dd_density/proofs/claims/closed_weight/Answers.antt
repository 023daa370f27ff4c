use Rattle.std.proofs.Common.{◌≡◌, ◌≤◌, ◌<◌, ◌+◌, ◌-◌, ◌%◌, ◌++◌, ◌∷◌, [], ℕ, List, length, take, drop, get_or, Some, arith, refl, ap, sym, subst, ◌∙◌}
use Rattle.std.proofs.lemmas.List.{take_more, take_all, at_drop_more}
use Rattle.dd_transfer.specs.Graphs.{next_of}
use Rattle.dd_meancycle.specs.Means.{IsPath, weight_of}
use Rattle.dd_meancycle.specs.lemmas.StepLaws.{path_push, weight_push, path_end}
use Rattle.dd_density.proofs.claims.closed_weight.Goals as goal

pub returns-then-not-leads : goal.returns-then-not-leads
returns-then-not-leads c = λ cycle.
    let g = c.args.graph.now in
    let walk = c.args.walk.now in
    let i = c.loop-state.state-index in
    let s = get_or walk i 0 in
    let k = length walk - 1 in
    let some : k + 1 ≡ length walk = omega (arith, cycle.turns) in
    let ends : cycle.last ≡ get_or walk k 0 = path_end g walk cycle.last cycle.last 0 k some cycle.closed in
    let same : c.in_ok-last.field-0.now ≡ get_or walk k 0 = c.in_ok-last.ensures.item.4 (omega arith) 0 in
    let from : IsPath g c.in_ok-last.field-0.now walk cycle.last = subst (λ (u : ℕ). IsPath g u walk cycle.last) (ends ∙ sym same) cycle.closed in
    let split : drop i walk ≡ s ∷ drop (i + 1) walk = at_drop_more (λ (ws : List ℕ). ws) walk i 0 c.loop-state-test.true in
    let rest : IsPath g c.loop-state.from (s ∷ drop (i + 1) walk) cycle.last =
    subst (λ (ws : List ℕ). IsPath g c.loop-state.from ws cycle.last) split (c.loop-state.invariant.rest cycle.last from) in
    let yes = c.if-not-leads.ensures.value.1 rest.0 in
    absurd (cc)

pub loop-state-preserved : goal.loop-state-preserved
loop-state-preserved c =
    let g = c.args.graph.now in
    let walk = c.args.walk.now in
    let last = c.in_ok-last.field-0.now in
    let i = c.loop-state.state-index in
    let s = get_or walk i 0 in
    let more : take (i + 1) walk ≡ take i walk ++ s ∷ [] = take_more walk i 0 c.loop-state-test.true in
    let split : drop i walk ≡ s ∷ drop (i + 1) walk = at_drop_more (λ (ws : List ℕ). ws) walk i 0 c.loop-state-test.true in
    let edge : next_of g c.loop-state.from (s % g.slices) ≡ Some s = c.if-not-leads.ensures.value.0 refl in
    record {
      path = subst (λ (ss : List ℕ). IsPath g last ss s) (sym more) (path_push g (take i walk) last c.loop-state.from s c.loop-state.invariant.path edge);
      rest = λ v whole. (subst (λ (ws : List ℕ). IsPath g c.loop-state.from ws v) split (c.loop-state.invariant.rest v whole)).1;
      sum = (let all = ap (weight_of g) more ∙ weight_push g (take i walk) s in omega (arith, all, c.last_weight.ensures.value, c.loop-state.invariant.sum));
      small = omega (arith, c.last_weight.ensures.small, c.loop-state.invariant.small);
    }

pub returns : goal.returns
returns c =
    let g = c.args.graph.now in
    let walk = c.args.walk.now in
    let last = c.in_ok-last.field-0.now in
    let i = c.loop-state.state-index in
    let whole : take i walk ≡ walk = take_all i walk c.loop-state-test.false in
    let k = length walk - 1 in
    let turns : 0 < length walk = c.in_ok-last.ensures.item.3.0 in
    let some : k + 1 ≡ length walk = omega (arith, turns) in
    let path : IsPath g last walk c.loop-state.from = subst (λ (ws : List ℕ). IsPath g last ws c.loop-state.from) whole c.loop-state.invariant.path in
    let ends : c.loop-state.from ≡ get_or walk k 0 = path_end g walk last c.loop-state.from 0 k some path in
    let same : last ≡ get_or walk k 0 = c.in_ok-last.ensures.item.4 (omega arith) 0 in
    let closed : IsPath g last walk last = subst (λ (v : ℕ). IsPath g last walk v) (ends ∙ sym same) path in
    let index : i ≤ length walk = c.loop-state.auto.state-index-end in (
      record { last = last; closed = closed; turns = turns },
      c.loop-state.invariant.sum ∙ ap (weight_of g) whole,
      omega (arith, c.loop-state.invariant.small, index),
    )
