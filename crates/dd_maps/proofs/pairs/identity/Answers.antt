use Rattle.std.proofs.Common.{◌≡◌, ◌-◌, map, ap, sym, ◌∙◌, subst}
use Rattle.std.specs.List.{All, range_with_len}
use Rattle.dd_formula.specs.{Automata.counted, ByCases.IsCaseOver}
use Rattle.dd_maps.specs.Pairs.{own_symbol, identity}
use Rattle.dd_maps.proofs.{Cases.own_cases, Faults.err_says, Faults.only_memory, Near.identity_short, Sizes.identity_few}
use Rattle.dd_maps.proofs.pairs.identity.Goals as goal

pub by_cases-requires-clause-cases : goal.by_cases-requires-clause-cases
by_cases-requires-clause-cases c =
    let g = c.args.topology.now in
    let s = c.args.sets.now in
    let same : c.as_slice.result.now ≡ map own_symbol (range_with_len 1 (s.symbols - 1)) =
    c.as_slice.ensures.value ∙ (c.in_ok-cases.ensures ∙ ap (λ n. map own_symbol (range_with_len 1 (n - 1))) c.symbols.ensures.value) in
    subst (All (IsCaseOver g s)) (sym same) (own_cases g s)

pub returns-clause-fault : goal.returns-clause-fault
returns-clause-fault c =
    let g = c.args.topology.now in
    let s = c.args.sets.now in
    let same : c.as_slice.result.now ≡ map own_symbol (range_with_len 1 (s.symbols - 1)) =
    c.as_slice.ensures.value ∙ (c.in_ok-cases.ensures ∙ ap (λ n. map own_symbol (range_with_len 1 (n - 1))) c.symbols.ensures.value) in
    err_says c.by_cases.result _ _ (only_memory g.nodes (counted (identity g s)) (identity_few g s g.nodes c.requires.symbols.1) (identity_short g s g.nodes)) (rw same at c.by_cases.ensures.fault)
