use Rattle.std.proofs.Common.{◌≡◌, ℕ, ◌≤◌, ◌+◌, ◌-◌, List, [], ◌∷◌, ◌++◌, map, ap, sym, ◌∙◌, arith}
use Rattle.std.proofs.lemmas.List.FromFn.{map-range_with_len_more}
use Rattle.std.specs.List.{range_with_len}
use Rattle.dd_expansion.specs.declared.formulas.Formula.{Formula}
use Rattle.dd_maps.specs.{Guarded.symbol_is, Pairs.own_symbol}
use Rattle.dd_maps.proofs.pairs.own_symbols.Goals as goal

own_more : (n : ℕ) (old new : List (Formula × ℕ)) (f : Formula) → 1 ≤ n → old ≡ map own_symbol (range_with_len 1 (n - 1)) → f ≡ symbol_is n → new ≡ old ++ (f, n) ∷ [] →
    new ≡ map own_symbol (range_with_len 1 (n + 1 - 1))
own_more n old new f some so_far is now =
    let count : (n - 1) + 1 ≡ n + 1 - 1 = omega arith in
    let last : 1 + (n - 1) ≡ n = omega arith in
    now
    ∙ (ap (λ g. old ++ (g, n) ∷ []) is
    ∙ (ap (λ xs. xs ++ own_symbol n ∷ []) so_far
    ∙ (sym (map-range_with_len_more own_symbol 1 (n - 1) n last) ∙ ap (λ k. map own_symbol (range_with_len 1 k)) count)))

pub loop-symbol-preserved : goal.loop-symbol-preserved
loop-symbol-preserved c =
    let n = c.loop-symbol.symbol in
    (omega arith, own_more n c.loop-symbol.cases.items _ c.symbol_is.result c.loop-symbol.invariant.0 c.loop-symbol.invariant.1 c.symbol_is.ensures c.in_ok-push.ensures.items)

pub returns : goal.returns
returns c =
    let same : c.loop-symbol.symbol ≡ c.args.symbols = omega (arith, c.loop-symbol-test.false, c.loop-symbol.auto.symbol-end) in
    c.loop-symbol.invariant.1 ∙ ap (λ k. map own_symbol (range_with_len 1 (k - 1))) same
