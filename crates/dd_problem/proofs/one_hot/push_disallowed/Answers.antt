use Rattle.std.proofs.Common.{◌≡◌, ◌+◌, ◌*◌, ℕ, Bool, true, false, ap, sym, ◌∙◌, add-one}
use Rattle.std.specs.Prelude.{not}
use Rattle.dd_cnf.specs.Encoding.{literal}
use Rattle.dd_formula.specs.LocalRule.{rule_allows}
use Rattle.dd_problem.specs.lemmas.RangesLeft.{none_kept, none_left_out}
use Rattle.dd_problem.proofs.one_hot.push_disallowed.Goals as goal
use Rattle.dd_problem.proofs.one_hot.push_disallowed.Goals.{then-not-allows+in_ok-push_clause, else-not-allows}

pub loop-symbol-preserved : goal.loop-symbol-preserved
loop-symbol-preserved c =
    let x = c.args.premise.now in
    let k = c.args.number in
    let s = c.loop-symbol.symbol in
    let q : ℕ → Bool = λ t. not (rule_allows x c.args.node t) in
    let before = c.loop-symbol.invariant in
    let tested : not c.allows.result ≡ q s = ap not c.allows.ensures.value in
    elim c.if-not-allows.branch [
      | then-not-allows+in_ok-push_clause w ↦ (let passes : q s ≡ true = sym tested ∙ ap not w.if-not-allows.true in
          let there = w.negative.ensures ∙ (ap (λ m. literal (k * m + s + 1) false) c.symbols-symbols.ensures.value ∙ ap (λ v. literal v false) (add-one (k * x.symbols + s))) in
          record {
            variables = ap (λ f. f.variables) w.cnf-is ∙ (w.in_ok-push_clause.ensures.variables ∙ before.variables);
            clauses =
                ap (λ f. f.clauses) w.cnf-is
                ∙ none_kept x.symbols k s q c.args.cnf.now.clauses c.loop-symbol.cnf.clauses w.push_clause.new.cnf.clauses w.negative.result passes before.clauses there w.in_ok-push_clause.ensures.ok;
          })
      | else-not-allows w ↦ (let fails : q s ≡ false = sym tested ∙ ap not w.if-not-allows.false in
          record {
            variables = ap (λ f. f.variables) w.cnf-is ∙ before.variables;
            clauses = ap (λ f. f.clauses) w.cnf-is ∙ none_left_out x.symbols k s q c.args.cnf.now.clauses c.loop-symbol.cnf.clauses fails before.clauses;
          })
    ]
