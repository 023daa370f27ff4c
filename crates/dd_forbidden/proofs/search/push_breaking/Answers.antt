use Rattle.std.proofs.Common.{◌≡◌, ◌++◌, ◌∷◌, [], true, false, OnOk, sym, subst, ◌∙◌}
use Rattle.std.proofs.lemmas.List.{append-nil}
use Rattle.dd_pattern.specs.Filling.{filled}
use Rattle.dd_forbidden.specs.Breaking.{is_true_at_origin}
use Rattle.dd_forbidden.proofs.search.push_breaking.Goals as goal

pub returns-then-truth : goal.returns-then-truth
returns-then-truth c =
    let kept : is_true_at_origin c.args.rule.now c.args.node c.args.symbols.now ≡ true = sym (c.requires.formula c.args.symbols.now c.requires.symbols) ∙ (sym c.truth.ensures ∙ c.if-truth.true) in
    rw kept (sym (append-nil c.args.found.now))

pub returns : goal.returns
returns c =
    let ss = c.args.symbols.now in
    let kept : is_true_at_origin c.args.rule.now c.args.node ss ≡ false = sym (c.requires.formula ss c.requires.symbols) ∙ (sym c.truth.ensures ∙ c.if-truth.false) in
    rw kept (subst (λ cs. OnOk c.push_filling.result (c.push_filling.new.found ≡ c.args.found.now ++ filled cs ss ∷ [])) c.requires.cells c.push_filling.ensures)
