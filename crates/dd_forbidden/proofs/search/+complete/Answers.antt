use Rattle.std.proofs.Common.{◌≡◌, ◌++◌, ◌∷◌, [], ℕ, List, true, false, cond, length, ap, sym, subst, ◌∙◌, arith}
use Rattle.std.proofs.lemmas.List.{append-nil, length-append}
use Rattle.dd_pattern.specs.Filling.{filled}
use Rattle.dd_formula.specs.LocalRule.{rule_allows}
use Rattle.dd_forbidden.specs.{listing.Extensions.completions, listing.Extensions.AreOf, lemmas.SayingLaws.rest_of}
use Rattle.dd_forbidden.proofs.Steps.{one_more}
use Rattle.dd_forbidden.proofs.search.+complete.Goals.{then-allows+in_ok-push+in_ok-complete, else-allows}
use Rattle.dd_values.specs.lemmas.Lists.{taken_off}
use Rattle.dd_forbidden.proofs.search.+complete.Goals as goal

pub complete-requires : goal.complete-requires
complete-requires t c =
    let r = c.args.rule.now in
    let symbol = c.loop-symbol.symbol in
    let stack : c.push.new.self ≡ c.args.symbols.now ++ symbol ∷ [] = c.in_ok-push.ensures.ok ∙ ap (λ (ss : List ℕ). ss ++ symbol ∷ []) c.loop-symbol.invariant.0 in
    let split : c.args.rest.now ≡ c.in-Some.next.now ∷ c.in-Some.later.now = c.in-Some.ensures.cases.0 in
    let count = ap length split in
    let longer = ap length stack ∙ length-append c.args.symbols.now (symbol ∷ []) in (
      omega (arith, count),
      (
        c.requires.ascending,
        (
          rest_of r c.in-Some.next.now c.in-Some.later.now (subst (AreOf r) split c.requires.rest),
          omega (arith, count, longer, c.requires.length),
        ),
      ),
    )

pub loop-symbol-preserved : goal.loop-symbol-preserved
loop-symbol-preserved t c =
    let r = c.args.rule.now in
    let node = c.in-Some.next.now.node in
    let later = c.in-Some.later.now in
    let begun = c.args.symbols.now in
    let symbol = c.loop-symbol.symbol in
    let branch : ℕ → List (List ℕ) = λ s. cond (rule_allows r node s) (completions r later (begun ++ s ∷ [])) [] in
    elim c.if-allows.branch [
      | then-allows+in_ok-push+in_ok-complete w ↦
          let stack : w.push.new.self ≡ begun ++ symbol ∷ [] = w.in_ok-push.ensures.ok ∙ ap (λ (ss : List ℕ). ss ++ symbol ∷ []) c.loop-symbol.invariant.0 in
          let allowed : rule_allows r node symbol ≡ true = sym c.allows.ensures.value ∙ w.if-allows.true in
          let is : branch symbol ≡ completions r later w.push.new.self =
          ap (λ b. cond b (completions r later (begun ++ symbol ∷ [])) []) allowed ∙ ap (completions r later) (sym stack) in (
            w.symbols-is ∙ taken_off begun w.pop.new.self w.complete.new.symbols symbol w.pop.result (w.in_ok-complete.ensures.symbols ∙ stack) w.pop.ensures,
            one_more (filled c.args.cells.now) branch c.args.found.now c.loop-symbol.found c.if-allows.found (completions r later w.push.new.self) symbol
                c.loop-symbol.invariant.1 (w.found-is ∙ w.in_ok-complete.ensures.found) is,
          )
      | else-allows w ↦
          let barred : rule_allows r node symbol ≡ false = sym c.allows.ensures.value ∙ w.if-allows.false in
          let is : branch symbol ≡ [] = ap (λ b. cond b (completions r later (begun ++ symbol ∷ [])) []) barred in (
            w.symbols-is ∙ c.loop-symbol.invariant.0,
            one_more (filled c.args.cells.now) branch c.args.found.now c.loop-symbol.found c.if-allows.found [] symbol
                c.loop-symbol.invariant.1 (w.found-is ∙ sym (append-nil c.loop-symbol.found)) is,
          )
    ]
