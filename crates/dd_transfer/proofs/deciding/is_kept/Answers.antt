use Rattle.std.proofs.Common.{◌≡◌, ℕ, List, ap, sym, ◌∙◌}
use Rattle.std.specs.List.{list_all}
use Rattle.dd_numbered.specs.Numbered.{holds_in}
use Rattle.dd_transfer.proofs.Saying.{along_from_formulas, formulas_from_along}
use Rattle.dd_transfer.proofs.deciding.is_kept.Goals as goal

pub returns-then-all_true : goal.returns-then-all_true
returns-then-all_true c =
    let w = c.args.window.now in
    let es = c.args.formulas.now in
    let said : c.all_true.result ≡ list_all (λ e. holds_in e w.symbols) es = c.all_true.ensures ∙ ap (λ (ss : List ℕ). list_all (λ e. holds_in e ss) es) c.symbols.ensures.value in (
      λ yes. record {
        allowed = c.are_allowed.ensures.0 yes;
        true_there = along_from_formulas c.args.rule.now w es c.requires.window c.requires.formulas (sym said ∙ c.if-all_true.true);
      },
      λ kept. c.are_allowed.ensures.1 kept.allowed,
    )

pub returns-else-all_true : goal.returns-else-all_true
returns-else-all_true c =
    let w = c.args.window.now in
    let es = c.args.formulas.now in
    let said : c.all_true.result ≡ list_all (λ e. holds_in e w.symbols) es = c.all_true.ensures ∙ ap (λ (ss : List ℕ). list_all (λ e. holds_in e ss) es) c.symbols.ensures.value in (
      λ f. absurd (cc),
      λ kept.
          let all = formulas_from_along c.args.rule.now w es c.requires.window c.requires.formulas kept.true_there in
          let no = c.if-all_true.false in
          cc,
    )
