use Rattle.std.proofs.Common.{◌≡◌, ◌<◌, ◌++◌, ◌∷◌, [], ℕ, List, true, false, cond, map, length, OnOk, ap, sym, subst, ◌∙◌, arith}
use Rattle.std.proofs.lemmas.List.{append-nil, length-append, Elements.All-push}
use Rattle.dd_pattern.specs.Filling.{filled}
use Rattle.dd_formula.specs.LocalRule.{rule_allows, cells_at}
use Rattle.dd_forbidden.specs.listing.Extensions.{completions, extensions, AreSymbols, AreOf}
use Rattle.dd_forbidden.specs.lemmas.SayingLaws.{rest_of}
use Rattle.dd_forbidden.proofs.{SettledLaws.all_broken, SettledLaws.none_broken, SettledLaws.settled_so, Steps.one_more}
use Rattle.dd_forbidden.proofs.search.+extend.Goals.{then-allows+in_ok-push+in_ok-extend, else-allows}
use Rattle.dd_values.specs.lemmas.Lists.{taken_off}
use Rattle.dd_forbidden.proofs.search.+extend.Goals as goal

pub extend-requires : goal.extend-requires
extend-requires t c =
    let r = c.args.rule.now in
    let symbol = c.loop-symbol.symbol in
    let stack : c.push.new.self ≡ c.args.symbols.now ++ symbol ∷ [] = c.in_ok-push.ensures.ok ∙ ap (λ (ss : List ℕ). ss ++ symbol ∷ []) c.loop-symbol.invariant.0 in
    let split : c.args.rest.now ≡ c.in-Some.cell.now ∷ c.in-Some.later.now = c.in-Some.ensures.cases.0 in
    let count = ap length split in
    let longer = ap length stack ∙ length-append c.args.symbols.now (symbol ∷ []) in (
      omega (arith, count),
      (
        c.requires.formula,
        (
          c.requires.cells,
          (
            c.requires.ascending,
            (
              rest_of r c.in-Some.cell.now c.in-Some.later.now (subst (AreOf r) split c.requires.rest),
              (
                omega (arith, count, longer, c.requires.length),
                subst (AreSymbols r) (sym stack) (All-push (λ s. s < r.symbols) c.args.symbols.now symbol c.requires.symbols
                    (let below = c.loop-symbol-test.true in let all = c.symbols-symbol-end.ensures.value in omega (arith, below, all))),
              ),
            ),
          ),
        ),
      ),
    )

pub loop-symbol-preserved : goal.loop-symbol-preserved
loop-symbol-preserved t c =
    let r = c.args.rule.now in
    let a = c.args.node in
    let node = c.in-Some.cell.now.node in
    let later = c.in-Some.later.now in
    let begun = c.args.symbols.now in
    let symbol = c.loop-symbol.symbol in
    let branch : ℕ → List (List ℕ) = λ s. cond (rule_allows r node s) (extensions r a later (begun ++ s ∷ [])) [] in
    elim c.if-allows.branch [
      | then-allows+in_ok-push+in_ok-extend w ↦
          let stack : w.push.new.self ≡ begun ++ symbol ∷ [] = w.in_ok-push.ensures.ok ∙ ap (λ (ss : List ℕ). ss ++ symbol ∷ []) c.loop-symbol.invariant.0 in
          let allowed : rule_allows r node symbol ≡ true = sym c.allows.ensures.value ∙ w.if-allows.true in
          let is : branch symbol ≡ extensions r a later w.push.new.self =
          ap (λ b. cond b (extensions r a later (begun ++ symbol ∷ [])) []) allowed ∙ ap (extensions r a later) (sym stack) in (
            w.symbols-is ∙ taken_off begun w.pop.new.self w.extend.new.symbols symbol w.pop.result (w.in_ok-extend.ensures.symbols ∙ stack) w.pop.ensures,
            one_more (filled (cells_at r a)) branch c.args.found.now c.loop-symbol.found c.if-allows.found (extensions r a later w.push.new.self) symbol
                c.loop-symbol.invariant.1 (w.found-is ∙ w.in_ok-extend.ensures.found) is,
          )
      | else-allows w ↦
          let barred : rule_allows r node symbol ≡ false = sym c.allows.ensures.value ∙ w.if-allows.false in
          let is : branch symbol ≡ [] = ap (λ b. cond b (extensions r a later (begun ++ symbol ∷ [])) []) barred in (
            w.symbols-is ∙ c.loop-symbol.invariant.0,
            one_more (filled (cells_at r a)) branch c.args.found.now c.loop-symbol.found c.if-allows.found [] symbol
                c.loop-symbol.invariant.1 (w.found-is ∙ sym (append-nil c.loop-symbol.found)) is,
          )
    ]

pub returns-in-Some-true-clause-found : goal.returns-in-Some-true-clause-found
returns-in-Some-true-clause-found t c =
    let r = c.args.rule.now in
    let a = c.args.node in
    let ss = c.args.symbols.now in
    let found = c.args.found.now in
    let settled =
    settled_so r a c.args.formula.now ss c.as_slice-2.result.now true c.in-Some-true.field-0 c.requires.formula c.as_slice-2.ensures c.in-Some-true.field-0-test
    c.in-Some-true.ensures in
    sym (ap (λ lists. found ++ map (filled (cells_at r a)) lists) (none_broken r a c.args.rest.now ss c.requires.symbols settled) ∙ append-nil found)

pub returns-in-Some-false-clause-found : goal.returns-in-Some-false-clause-found
returns-in-Some-false-clause-found t c =
    let r = c.args.rule.now in
    let a = c.args.node in
    let ss = c.args.symbols.now in
    let found = c.args.found.now in
    let settled =
    settled_so r a c.args.formula.now ss c.as_slice-2.result.now false c.in-Some-false.field-0 c.requires.formula c.as_slice-2.ensures c.in-Some-false.field-0-test
    c.in-Some-false.ensures in
    subst (λ lists. OnOk c.complete.result (c.complete.new.found ≡ found ++ map (filled (cells_at r a)) lists)) (sym (all_broken r a c.args.rest.now ss c.requires.symbols settled))
    (subst (λ cs. OnOk c.complete.result (c.complete.new.found ≡ found ++ map (filled cs) (completions r c.args.rest.now ss))) c.requires.cells c.complete.ensures.found)
